-- The parts of a locale's normal text, each a kind and a piece, and the rows that say where they
-- stand. Restates the canonical syntax of UTS #35, section 3.2.1, with the names of its parts.
use Rattle.std.specs.Prelude.{◌≡◌, ⊤, ℕ, ◌+◌, ◌-◌, ◌≤◌, List, [], ◌∷◌, ◌++◌, length, take, drop, map}
use Rattle.std.specs.Prelude.{flat_map, Option, Some, None, option_map, option_to_list}
use Rattle.iloc_spec_grammar.specs.Syntax.{Text, Block, code_t, code_u, code_x, Stage, IdentifierOf}
use Rattle.iloc_spec_grammar.specs.Syntax.{SpelledIdentifier, Unicode, Transform, Fields, IsWord, languages}
use Rattle.iloc_spec_grammar.specs.Syntax as words
use Rattle.iloc_spec_grammar.specs.Meaning.{Locale, Extensions}
use Rattle.iloc_spec_grammar.specs.Values.{AreWellFormed, IsValue, lower_identifier, spelled_fields, text}
use Rattle.iloc_spec_grammar.specs.Tree.{before_t, after_t}
use Rattle.locale_web.specs.declared.kind.Kind.{Kind}
use Rattle.locale_web.specs.declared.kind.Kind.TheVariants.{Language, Script, Region, Variant, Singleton}
use Rattle.locale_web.specs.declared.kind.Kind.TheVariants.{Attribute, Key, Value, Field, Other, Private}

-- a piece, and what it is
abbrev pub KindedPiece : Type 0
KindedPiece = Kind × Text

-- the parts of a locale: what its text joins

-- each piece of this kind
abbrev pub of_kind : Kind → List Text → List KindedPiece
of_kind kind ps = map (λ p. (kind, p)) ps

-- a language, perhaps a script and a region, and variants (UTS #35 3.1, `unicode_language_id`)
abbrev pub parts_of_identifier : {s : Stage} → IdentifierOf s → List KindedPiece
parts_of_identifier i = (Language, i.language)
    ∷ (of_kind Script (option_to_list i.script)
    ++ (of_kind Region (option_to_list i.region) ++ of_kind Variant i.variants))

-- none if the identifier is absent
abbrev pub parts_of_optional : Option SpelledIdentifier → List KindedPiece
parts_of_optional None = []
parts_of_optional (Some i) = parts_of_identifier i

-- each key, of this kind, and its values (UTS #35 3.2, `ufield` and `tfield`)
abbrev pub parts_of_fields : Kind → Fields → List KindedPiece
parts_of_fields kind fs = flat_map (λ (key, values). (kind, key) ∷ of_kind Value values) fs

-- a singleton, and what follows it; an empty part gives none
abbrev pub parts_of_block : ℕ → List KindedPiece → List KindedPiece
parts_of_block c [] = []
parts_of_block c (p ∷ ps) = (Singleton, c ∷ []) ∷ (p ∷ ps)

-- `t`, an identifier in lower case, and fields, of which an empty value is spelled `true` (UTS #35
-- 3.2, `transformed_extensions`)
abbrev pub parts_of_transform : Transform → List KindedPiece
parts_of_transform m = parts_of_block code_t (parts_of_optional (option_map lower_identifier m.id)
    ++ parts_of_fields Field (spelled_fields m.fields))

-- `u`, attributes and keywords (UTS #35 3.2, `unicode_locale_extensions`)
abbrev pub parts_of_unicode : Unicode → List KindedPiece
parts_of_unicode u = parts_of_block code_u
    (of_kind Attribute u.attributes ++ parts_of_fields Key u.keywords)

-- other extensions, each with its singleton (UTS #35 3.2, `other_extensions`)
abbrev pub parts_of_others : List Block → List KindedPiece
parts_of_others os = flat_map (λ (c, ws). parts_of_block c (of_kind Other ws)) os

-- `x`, and private subtags (UTS #35 3.2, `pu_extensions`)
abbrev pub parts_of_private : List Text → List KindedPiece
parts_of_private ws = parts_of_block code_x (of_kind Private ws)

-- others up to `t`, `t`, `u`, other others, and `x` (UTS #35 3.2.1)
abbrev pub parts_of_extensions : Extensions → List KindedPiece
parts_of_extensions e = parts_of_others (before_t e.others)
    ++ (parts_of_transform e.transform
    ++ (parts_of_unicode e.unicode
    ++ (parts_of_others (after_t e.others) ++ parts_of_private e.private)))

-- the identifier in front, and the extensions (UTS #35 3.2, `unicode_locale_id`)
unfoldable pub parts_of : Locale → List KindedPiece
parts_of M = parts_of_identifier M.id ++ parts_of_extensions M.extensions

-- the part is a word of its kind (UTS #35 3.1 and 3.2)
abbrev pub IsOfKind : KindedPiece → Type 0
IsOfKind (Language, p) = IsWord (words.Language languages) p
IsOfKind (Script, p) = IsWord words.Script p
IsOfKind (Region, p) = IsWord words.Region p
IsOfKind (Variant, p) = IsWord words.Variant p
IsOfKind (Singleton, p) = IsWord words.PrivateSubtag p × (length p ≡ 1)
IsOfKind (Attribute, p) = IsWord words.Attribute p
IsOfKind (Key, p) = IsWord words.UnicodeKey p
IsOfKind (Value, p) = IsWord words.Attribute p
IsOfKind (Field, p) = IsWord words.TransformKey p
IsOfKind (Other, p) = IsWord words.Subtag p
IsOfKind (Private, p) = IsWord words.PrivateSubtag p

-- the normal text of a well-formed value
pub record IsNormalTextOf (M : Locale) (t : Text) : Type 0 where
  pub value : IsValue languages M
  pub tests : AreWellFormed M.extensions
  pub text : t ≡ text M

-- the rows of a table

-- the number by which a caller knows a kind
abbrev pub kind_number : Kind → ℕ
kind_number Language = 0
kind_number Script = 1
kind_number Region = 2
kind_number Variant = 3
kind_number Singleton = 4
kind_number Attribute = 5
kind_number Key = 6
kind_number Value = 7
kind_number Field = 8
kind_number Other = 9
kind_number Private = 10

-- three numbers of each part: where it begins, where it ends, and that of its kind; the first one
-- begins at `at`, and each other behind the hyphen after the one before it
abbrev pub rows_from : ℕ → List KindedPiece → List ℕ
rows_from at [] = []
rows_from at ((kind, p) ∷ ps) =
    at ∷ (at + length p) ∷ kind_number kind ∷ rows_from (at + length p + 1) ps

-- the rows of all parts of a text
unfoldable pub rows_of : List KindedPiece → List ℕ
rows_of ps = rows_from 0 ps

-- each row says where its part stands in the text, and its kind
abbrev pub ArePlaced : Text → List ℕ → List KindedPiece → Type 0
ArePlaced t [] [] = ⊤
ArePlaced t (start ∷ end ∷ number ∷ rows) ((kind, p) ∷ ps) = (start ≤ end) × (end ≤ length t)
    × (take (end - start) (drop start t) ≡ p) × (number ≡ kind_number kind) × ArePlaced t rows ps
ArePlaced t rows ps = ⊥

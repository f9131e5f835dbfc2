-- Values: what a locale in memory stands for, its text, and when it is well-formed. The text is
-- that of the canonical syntax of UTS #35, section 3.2.1: one case for each kind of word, variants,
-- attributes, keys and singletons in ascending order, and no value `true` (but in a field of `t`,
-- which has no other empty value). It is defined for values that are not well-formed too.
use Rattle.std.specs.Prelude.{◌≡◌, ⊤, ◌↔◌, ◌≢◌, ℕ, ◌≤◌, true, false, List, [], ◌∷◌, ◌++◌, length, map}
use Rattle.std.specs.Prelude.{flat_map, IfSome, option_map, option_to_list, nat_le, codes, if◌then◌else◌, ◌⊎◌}
use Rattle.std.specs.Prelude.{zero, suc, Bool, not}
use Rattle.std.specs.Char.{to_ascii_lowercase}
use Rattle.std.specs.List.{AllByRecursion, AllZip}
use Rattle.std.specs.FinMap.{is_sorted}
use Rattle.std.specs.Ordering.{nat_cmp}
use Rattle.std.specs.declared.cmp.Ordering.{Ordering}
use Rattle.std.specs.declared.cmp.Ordering.TheVariants.{Less}
use Rattle.iloc_spec_grammar.specs.Syntax.{Text, LanguageLengths, Block, code_t, code_u, code_x, Field, join}
use Rattle.iloc_spec_grammar.specs.Syntax.{pieces, head, tail_blocks, Kind, Language, Script, Region, Variant}
use Rattle.iloc_spec_grammar.specs.Syntax.{Subtag, UnicodeKey, TransformKey, Attribute, PrivateSubtag, IsWord}
use Rattle.iloc_spec_grammar.specs.Syntax.{normal, lower, word_cmp, is_true, is_word, languages, IsAmong}
use Rattle.iloc_spec_grammar.specs.Syntax.{Stage, Spelled, Meant, IdentifierOf, UnicodeOf, TransformOf, Fields}
use Rattle.iloc_spec_grammar.specs.Syntax.{optional_pieces, unicode_pieces, transform_pieces}
use Rattle.iloc_spec_grammar.specs.Syntax.{is_other_singleton, identifier_pieces, fields_pieces, AllDifferent}
use Rattle.iloc_spec_grammar.specs.Syntax.{HasWords, IsIdentifier, IsUnicode, IsTransform, IsNonempty}
use Rattle.iloc_spec_grammar.specs.Meaning.{Locale, ExtensionsOf, Means}

-- What the types keep.

-- a word in its normal case (UTS #35 3.2.1)
abbrev pub IsNormal : Kind → Text → Type 0
IsNormal k w = IsWord k w × (normal k w ≡ w)

-- each item is below all later ones (UTS #35 3.2.1 of variants and attributes)
abbrev pub StrictlyAscends : {X : Type 0} → (X → X → Ordering) → List X → Type 0
StrictlyAscends cmp [] = ⊤
StrictlyAscends cmp (x ∷ xs) = AllByRecursion (λ y. cmp x y ≡ Less) xs × StrictlyAscends cmp xs

-- normal words, the variants a set (UTS #35 3.1, `unicode_language_id`)
pub record IsIdentifierValue (T : LanguageLengths) (i : IdentifierOf Meant) : Type 0 where
  pub language : IsNormal (Language T) i.language
  pub script : IfSome i.script (IsNormal Script)
  pub region : IfSome i.region (IsNormal Region)
  pub variants : AllByRecursion (IsNormal Variant) i.variants
  pub ascending : StrictlyAscends word_cmp i.variants

-- a set of attributes, and a map from keys to lists of subtags (UTS #35 3.2,
-- `unicode_locale_extensions`)
pub record IsUnicodeValue (u : UnicodeOf Meant) : Type 0 where
  pub attributes : AllByRecursion (IsNormal Attribute) u.attributes
  pub ascending : StrictlyAscends word_cmp u.attributes
  pub keywords : AllByRecursion
      (λ (key, ws). IsNormal UnicodeKey key × AllByRecursion (IsNormal Subtag) ws) u.keywords
  pub keys_ascend : is_sorted word_cmp u.keywords ≡ true

-- perhaps an identifier, and a map from keys to lists of subtags of three bytes or more other than
-- `true`
pub record IsTransformValue (T : LanguageLengths) (m : TransformOf Meant) : Type 0 where
  pub id : IfSome m.id (IsIdentifierValue T)
  pub fields : AllByRecursion
      (λ (key, values). IsNormal TransformKey key
      × AllByRecursion (λ w. IsNormal Attribute w × (is_true w ≡ false)) values) m.fields
  pub keys_ascend : is_sorted word_cmp m.fields ≡ true

-- The others are a list in any order, with any bytes for singletons: callers may build what no text
-- means, as an other extension of `t`.
pub record IsExtensionsValue (T : LanguageLengths) (e : ExtensionsOf Meant) : Type 0 where
  pub unicode : IsUnicodeValue e.unicode
  pub transform : IsTransformValue T e.transform
  pub private : AllByRecursion (IsNormal PrivateSubtag) e.private
  pub others : AllByRecursion (λ (_, ws). AllByRecursion (IsNormal Subtag) ws) e.others

-- what a locale in memory stands for: normal words, ascending sets and maps, in each part
pub record IsValue (T : LanguageLengths) (M : Locale) : Type 0 where
  pub id : IsIdentifierValue T M.id
  pub extensions : IsExtensionsValue T M.extensions

-- an identifier with all words in lower case, as after `t` (UTS #35 3.2.1)
abbrev pub lower_identifier : {s : Stage} → IdentifierOf s → IdentifierOf Spelled
lower_identifier i = record {
  language = lower i.language;
  script = option_map lower i.script;
  region = option_map lower i.region;
  variants = map lower i.variants;
}

-- an empty value of a transform is spelled `true`, since a `tfield` has a value (UTS #35 3.2)
abbrev pub spelled_value : List Text → List Text
spelled_value [] = codes "true" ∷ []
spelled_value (w ∷ ws) = w ∷ ws

-- fields as they are printed, with `true` for an empty value of `t`
abbrev pub spelled_fields : Fields → Fields
spelled_fields fs = map (λ (key, values). (key, spelled_value values)) fs

-- The text.

-- the block of `t` as it is printed: after a singleton all is in lower case (RFC 5646, 2.1.1)
abbrev pub transform_block : TransformOf Meant → Block
transform_block m =
    (code_t, map lower (optional_pieces m.id) ++ fields_pieces (spelled_fields m.fields))

-- the others, with the blocks bs before the first whose singleton is above `t`, or last if none is
-- (UTS #35 3.2.1)
abbrev pub before_above : List Block → List Block → List Block
before_above bs [] = bs
before_above bs ((c, ws) ∷ os) = if nat_le c code_t then (c, ws) ∷ before_above bs os
    else bs ++ ((c, ws) ∷ os)

-- the pieces of a block, its singleton first; an empty block gives none
abbrev pub printed_pieces : Block → List Text
printed_pieces (c, []) = []
printed_pieces (c, p ∷ ps) = (c ∷ []) ∷ p ∷ ps

-- all that follows the identifier: others up to `t`, `t`, `u`, other others, and `x` (UTS #35
-- 3.2.1)
unfoldable pub extensions_spelling : ExtensionsOf Meant → List Text
extensions_spelling e = flat_map printed_pieces
    (before_above (transform_block e.transform ∷ (code_u, unicode_pieces e.unicode) ∷ []) e.others
    ++ ((code_x, e.private) ∷ []))

-- the printed text: the canonical syntax of UTS #35 3.2.1; aliases stay
abbrev pub text : Locale → Text
text M = join (identifier_pieces M.id ++ extensions_spelling M.extensions)

-- a locale is well-formed if its text means it (this library's rule)
abbrev pub IsWellFormed : Locale → Type 0
IsWellFormed M = Means languages (text M) M

-- The pieces that each part gives, its singleton among them; an empty part gives none.

-- the pieces that a unicode part prints, with its singleton (UTS #35 3.2.1)
unfoldable pub unicode_spelling : UnicodeOf Meant → List Text
unicode_spelling u = printed_pieces (code_u, unicode_pieces u)

-- the pieces that a transform part prints, with its singleton (UTS #35 3.2.1)
unfoldable pub transform_spelling : TransformOf Meant → List Text
transform_spelling m = printed_pieces (transform_block m)

-- the pieces that another extension prints, with its singleton (UTS #35 3.2.1)
unfoldable pub other_spelling : Block → List Text
other_spelling o = printed_pieces o

-- the pieces that a private part prints, with its singleton (UTS #35 3.2.1)
unfoldable pub private_spelling : List Text → List Text
private_spelling ws = printed_pieces (code_x, ws)

-- What `is_well_formed` tests: the others ascend, with singletons of their own and a subtag each;
-- no keyword holds `true` or a subtag of two bytes, which is no value.
pub record AreWellFormed (e : ExtensionsOf Meant) : Type 0 where
  pub ascending : is_sorted nat_cmp e.others ≡ true
  pub singletons : AllByRecursion
      (λ (c, _). (is_other_singleton c ≡ true) × (to_ascii_lowercase c ≡ c)) e.others
  pub nonempty : AllByRecursion (λ (_, ws). IsNonempty ws) e.others
  pub values : AllByRecursion
      (λ (_, ws). AllByRecursion (λ w. (is_true w ≡ false) × (length w ≢ 2)) ws) e.unicode.keywords

-- The text of each part alone is the join of its share; of an empty part it is empty.

-- the text of an identifier (UTS #35 3.2.1)
unfoldable pub identifier_text : IdentifierOf Meant → Text
identifier_text i = join (identifier_pieces i)

-- the text of a unicode part (UTS #35 3.2.1)
unfoldable pub unicode_text : UnicodeOf Meant → Text
unicode_text u = join (unicode_spelling u)

-- the text of a transform part (UTS #35 3.2.1)
unfoldable pub transform_text : TransformOf Meant → Text
transform_text m = join (transform_spelling m)

-- the text of another extension (UTS #35 3.2.1)
unfoldable pub other_text : Block → Text
other_text o = join (other_spelling o)

-- the text of a private part (UTS #35 3.2.1)
unfoldable pub private_text : List Text → Text
private_text ws = join (private_spelling ws)

-- the text of all extensions (UTS #35 3.2.1)
unfoldable pub extensions_text : ExtensionsOf Meant → Text
extensions_text e = join (extensions_spelling e)

-- Sets of variants or attributes, and values of keywords, are the join of their words; an empty
-- value of a field is `true`.

-- the text of a field's value: `true` if it is empty (this library's rule)
unfoldable pub field_value_text : List Text → Text
field_value_text ws = join (spelled_value ws)

-- the text of fields: each key, and its value (UTS #35 3.2.1)
unfoldable pub fields_text : Fields → Text
fields_text fs = join (fields_pieces (spelled_fields fs))

-- Steps of rewriting: eight ways to change an accepted text that keep its meaning and do not
-- lengthen it. They change the case of letters; the order of blocks, variants, attributes or
-- fields; or leave out repeated attributes and fields, `true` in values, and pieces that other
-- extensions drop. The laws `steps` and `chain` say that they keep the meaning, and that at most
-- eight lead to the normal text. UTS #35, section 3, gives its canonical syntax by such steps.

-- What a step does to a list.

-- the same items in another order
pub data Reordered {X : Type 0} : List X → List X → Type 0 where
  none : Reordered [] []
  front_kept : {x : X} {xs ys : List X} → Reordered xs ys → Reordered (x ∷ xs) (x ∷ ys)
  first_two : {x y : X} {xs : List X} → Reordered (x ∷ y ∷ xs) (y ∷ x ∷ xs)
  in_turn : {xs ys zs : List X} → Reordered xs ys → Reordered ys zs → Reordered xs zs

-- ys is xs with some items left out that pass the test
pub data Without {X : Type 0} (may_go : X → Bool) : List X → List X → Type 0 where
  none : Without may_go [] []
  stays : {x : X} {xs ys : List X} → Without may_go xs ys → Without may_go (x ∷ xs) (x ∷ ys)
  left_out : {x : X} {xs ys : List X} → may_go x ≡ true → Without may_go xs ys
      → Without may_go (x ∷ xs) ys

-- ys is xs with some items left out whose key, in lower case, an earlier one that stays has, or the
-- list seen
pub data WithoutRepeats {X : Type 0} (key : X → Text) : List Text → List X → List X → Type 0 where
  none : {seen : List Text} → WithoutRepeats key seen [] []
  stays : {seen : List Text} {x : X} {xs ys : List X}
      → WithoutRepeats key (lower (key x) ∷ seen) xs ys → WithoutRepeats key seen (x ∷ xs) (x ∷ ys)
  left_out : {seen : List Text} {x : X} {xs ys : List X}
      → IsAmong word_cmp (lower (key x)) seen → WithoutRepeats key seen xs ys
      → WithoutRepeats key seen (x ∷ xs) ys

-- The steps.

-- seven rules, and with the case of letters eight ways; a step follows one, in as many places as
-- wanted
pub data Rule : Type 0 where
  BlockOrder VariantOrder AttributeOrder FieldOrder Repeats Trues DroppedPieces : Rule

-- some values that are `true` are left out, and n stay at least
abbrev pub LessTrue : ℕ → Field → Field → Type 0
LessTrue n (k, vs) (l, ws) = (k ≡ l) × Without (λ w. is_true (lower w)) vs ws × (n ≤ length ws)

-- the variants of an identifier: `posix-macos` to `macos-posix`
abbrev pub VariantsStep : Rule → List Text → List Text → Type 0
VariantsStep VariantOrder vs ws = Reordered vs ws
VariantsStep r vs ws = vs ≡ ws

-- the attributes of a block of `u`: `foo-bar` to `bar-foo`, or `foo-FOO` to `foo`
abbrev pub AttributesStep : Rule → List Text → List Text → Type 0
AttributesStep AttributeOrder vs ws = Reordered vs ws
AttributesStep Repeats vs ws = WithoutRepeats (λ w. w) [] vs ws
AttributesStep r vs ws = vs ≡ ws

-- the fields of a block, each with n values at least: `hc-h12-ca-foo` to `ca-foo-hc-h12` if all
-- keys differ, `ca-foo-ca-bar` to `ca-foo`, or `ca-foo-true` to `ca-foo`
abbrev pub FieldsStep : Rule → ℕ → Fields → Fields → Type 0
FieldsStep FieldOrder n fs gs = AllDifferent word_cmp (map (λ (k, _). lower k) fs) × Reordered fs gs
FieldsStep Repeats n fs gs = WithoutRepeats (λ (key, _). key) [] fs gs
FieldsStep Trues n fs gs = AllZip (LessTrue n) fs gs
FieldsStep VariantOrder n fs gs = fs ≡ gs
FieldsStep AttributeOrder n fs gs = fs ≡ gs
FieldsStep DroppedPieces n fs gs = fs ≡ gs
FieldsStep BlockOrder n fs gs = fs ≡ gs

-- j is i with other variants: `en-posix-macos` to `en-macos-posix`
abbrev pub IdentifierStep : Rule → IdentifierOf Spelled → IdentifierOf Spelled → Type 0
IdentifierStep r i j = (j ≡ record i { variants = j.variants })
    × VariantsStep r i.variants j.variants

-- what a rule does inside a block, whose singleton stays; a block may also stay as it is, and in a
-- field of `t` one value stays at least
pub data BlockStep (T : LanguageLengths) (r : Rule) : Block → Block → Type 0 where
  same : {b : Block} → BlockStep T r b b
  -- `u-foo-bar` to `u-bar-foo`
  in_unicode : {c : ℕ} (u v : UnicodeOf Spelled) → to_ascii_lowercase c ≡ code_u → IsUnicode u
      → AttributesStep r u.attributes v.attributes → FieldsStep r 0 u.keywords v.keywords
      → BlockStep T r (c, unicode_pieces u) (c, unicode_pieces v)
  -- `t-m0-foo-true` to `t-m0-foo`
  in_transform : {c : ℕ} (m n : TransformOf Spelled) → to_ascii_lowercase c ≡ code_t
      → IsTransform T m → AllZip (IdentifierStep r) (option_to_list m.id) (option_to_list n.id)
      → FieldsStep r 1 m.fields n.fields
      → BlockStep T r (c, transform_pieces m) (c, transform_pieces n)
  -- `a-foo-!!-bar` to `a-foo-bar`
  in_other : {c : ℕ} {ps qs : List Text} → is_other_singleton (to_ascii_lowercase c) ≡ true
      → r ≡ DroppedPieces → Without (λ p. not (is_word Subtag p)) ps qs
      → BlockStep T r (c, ps) (c, qs)

-- the blocks in another order, as `u-ca-foo-a-bar` to `a-bar-u-ca-foo`, or a step inside some of
-- them
abbrev pub BlocksStep : LanguageLengths → Rule → List Block → List Block → Type 0
BlocksStep T BlockOrder bs cs = Reordered bs cs
BlocksStep T r bs cs = AllZip (BlockStep T r) bs cs

-- the rule leads from an accepted text t to u, in the identifier and in the blocks
pub record Rewrites (T : LanguageLengths) (r : Rule) (t u : Text) : Type 0 where
  pub accepted : (M : Locale) × Means T t M
  pub old : IdentifierOf Spelled
  pub new : IdentifierOf Spelled
  pub words : HasWords T old
  pub old_spelled : head (pieces t) ≡ identifier_pieces old
  pub new_spelled : head (pieces u) ≡ identifier_pieces new
  pub id : IdentifierStep r old new
  pub blocks : BlocksStep T r (tail_blocks (pieces t)) (tail_blocks (pieces u))

-- one step leads from the text t to u: in the case of letters, as `EN-us` to `en-US`, or by a rule
pub data TextStep (T : LanguageLengths) (t u : Text) : Type 0 where
  letter_case : lower t ≡ lower u → TextStep T t u
  rewritten : (r : Rule) → Rewrites T r t u → TextStep T t u

-- the same for the texts of identifiers: in the case of letters, or in the order of variants
pub data IdentifierTextStep (T : LanguageLengths) (t u : Text) : Type 0 where
  letter_case : lower t ≡ lower u → IdentifierTextStep T t u
  variant_order : {i j : IdentifierOf Spelled} → IsIdentifier T i → pieces t ≡ identifier_pieces i
      → pieces u ≡ identifier_pieces j → IdentifierStep VariantOrder i j → IdentifierTextStep T t u

-- Chains.

-- at most n steps of the relation lead from t to u
abbrev pub Leads : (Text → Text → Type 0) → ℕ → Text → Text → Type 0
Leads R zero t u = t ≡ u
Leads R (suc n) t u = (t ≡ u) ⊎ ((s : Text) × R t s × Leads R n s u)

-- at most n steps lead from t, and at most n from u, to one text
pub record LeadToOne (R : Text → Text → Type 0) (n : ℕ) (t u : Text) : Type 0 where
  pub end : Text
  pub first : Leads R n t end
  pub second : Leads R n u end

-- Normal texts.

-- t is the normal text of input, given what each text says, how that is printed, and which steps
-- rewrite texts (canonical syntax, UTS #35 3.2.1)
pub record IsNormalizedFrom {X : Type 0} (Says : Text → X → Type 0) (print : X → Text)
    (Step : Text → Text → Type 0) (n : ℕ) (input t : Text) : Type 0 where
  -- the text of its meaning
  pub text_is : (M : X) × Says input M × (t ≡ print M)
  -- which is its own normal text
  pub again : (M : X) × Says t M × (t ≡ print M)
  -- an accepted text u means what the input means exactly if t is its normal text
  pub same : (u : Text) (L M : X) → Says input L → Says u M → (L ≡ M) ↔ (t ≡ print M)
  -- and no text that means the same is shorter
  pub shortest : (u : Text) (M : X) → Says input M → Says u M → length t ≤ length u
  -- n steps of rewriting at most lead here
  pub steps : Leads Step n input t
  -- so u means what the input means exactly if n steps at most lead from each to one text
  pub together : (u : Text) (L M : X) → Says input L → Says u M → (L ≡ M) ↔ LeadToOne Step n input u

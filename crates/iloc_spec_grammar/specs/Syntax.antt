-- Syntax: what texts are made of. First the shapes that all definitions speak of; then the pieces
-- of a text, its blocks, its words, and the parts that it spells. Restates UTS #35, section 3.
use Rattle.std.specs.Prelude.{ℕ, take, drop, Bool, List, ◌==◌, ◌≡◌, [], ◌∷◌, flat_map, ◌≢◌, false, cond}
use Rattle.std.specs.Prelude.{length, ◌-◌, ◌≤◌, ⊤, true, ◌&&◌, ◌||◌, ◌++◌, map, replicate, slice_index}
use Rattle.std.specs.Prelude.{Option, Some, None, Result, Ok, Err, if◌then◌else◌, codes, ◌<◌, not, filter}
use Rattle.std.specs.Prelude.{IfSome, option_to_list}
use Rattle.std.specs.List.{slice_split, join_with_byte, list_any, AllByRecursion, list_all}
use Rattle.std.specs.Char.{to_ascii_lowercase, is_ascii_alphabetic, is_ascii_digit, is_ascii_alphanumeric}
use Rattle.std.specs.Char.{to_ascii_uppercase}
use Rattle.std.specs.Int.{is_in_range}
use Rattle.std.specs.Ordering.{nat_cmp, eq_by_cmp}
use Rattle.std.specs.declared.cmp.Ordering.{Ordering}
use Rattle.std.specs.Cmp.Lexicographic.{slice_cmp}

-- bytes: a whole text, a piece of it, or a word (UTS #35 3 speaks of ASCII texts; here any bytes)
abbrev pub Text : Type 0
Text = List ℕ

-- which lengths a language may have (UTS #35 3.1, `unicode_language_subtag`)
abbrev pub LanguageLengths : Type 0
LanguageLengths = ℕ → Bool

-- a key and the pieces after it, as `ca-islamic-civil` (UTS #35 3.2, `ufield` and `tfield`)
abbrev pub Field : Type 0
Field = Text × List Text

-- a singleton and the pieces after it, as `u-ca-buddhist` (UTS #35 3.2, `extensions`)
abbrev pub Block : Type 0
Block = ℕ × List Text

-- the byte of `t`, whose extension is a transform (UTS #35 3.2, `transformed_extensions`)
abbrev pub code_t : ℕ
code_t = 116

-- the byte of `u`, whose extension has attributes and keywords (UTS #35 3.2,
-- `unicode_locale_extensions`)
abbrev pub code_u : ℕ
code_u = 117

-- the byte of `x`, before what is private (UTS #35 3.2, `pu_extensions`)
abbrev pub code_x : ℕ
code_x = 120

-- Pieces: a text is cut at its hyphens, and at nothing else. Restates how UTS #35, section 3,
-- separates subtags; its other separator, the underscore, is none here. A text is a list of bytes.

-- the text split at each hyphen (45; UTS #35 3.1, `sep`): `en--us` has three pieces, the empty text
-- one
unfoldable pub pieces : Text → List Text
pieces t = slice_split (λ b. b == 45) t

-- the pieces with a hyphen between each two (UTS #35 3.1, `sep`)
unfoldable pub join : List Text → Text
join ps = join_with_byte 45 ps

-- each piece after a hyphen: what follows the first piece in a join
abbrev pub dashes : List Text → Text
dashes ps = flat_map (λ p. 45 ∷ p) ps

-- no byte is a hyphen
abbrev pub IsHyphenFree : Text → Type 0
IsHyphenFree p = list_any (λ b. b == 45) p ≡ false

-- what the pieces of a text are: a nonempty list without hyphens whose join is the text
pub record ArePieces (t : Text) (ps : List Text) : Type 0 where
  pub nonempty : ps ≢ []
  pub hyphen_free : AllByRecursion IsHyphenFree ps
  pub joined : join ps ≡ t

-- Blocks: the pieces of a text are a head, and blocks that begin at its pieces of one byte.
-- Restates UTS #35, section 3: extensions begin at singletons, and pu_extensions take all the rest.

-- whether the piece may begin a block: a singleton (UTS #35 3.2, `extensions`)
abbrev pub is_one_byte : Text → Bool
is_one_byte p = length p == 1

-- the pieces before the first of one byte: a block ends there (UTS #35 3.2)
abbrev pub front : List Text → List Text
front [] = []
front (p ∷ ps) = cond (length p == 1) [] (p ∷ front ps)

-- A block is a piece of one byte, its singleton, and the pieces up to the next such piece; that of
-- `x` takes all the rest (UTS #35 3.2, `pu_extensions`). Pieces before the first block are passed
-- over.
abbrev pub blocks : List Text → List Block
blocks [] = []
blocks ([] ∷ ps) = blocks ps
blocks ((c ∷ []) ∷ ps) = cond (to_ascii_lowercase c == code_x) ((c, ps) ∷ [])
    ((c, front ps) ∷ blocks ps)
blocks ((c ∷ d ∷ p) ∷ ps) = blocks ps

-- the first piece, and those after it up to the first of one byte (UTS #35 3.2,
-- `unicode_locale_id`)
abbrev pub head : List Text → List Text
head [] = []
head (p ∷ ps) = p ∷ front ps

-- the blocks after the head (UTS #35 3.2, `extensions`)
abbrev pub tail_blocks : List Text → List Block
tail_blocks [] = []
tail_blocks (p ∷ ps) = blocks ps

-- the first piece, or the empty one
abbrev pub first_piece : List Text → Text
first_piece [] = []
first_piece (p ∷ ps) = p

-- Words: the pieces that each kind takes, their normal text, and their raw form. Restates the
-- subtags of UTS #35, section 3 (unicode_language_subtag, unicode_script_subtag,
-- unicode_region_subtag, unicode_variant_subtag, key, attribute, type, tkey, tvalue), and the case
-- of letters in its canonical syntax. Letters and digits are those of ASCII; a word is a list of
-- bytes.

-- The kinds of words (UTS #35 3.1 and 3.2). Which lengths a language may have is given.
pub data Kind : Type 0 where
  Language : LanguageLengths → Kind
  Script Region Variant Subtag UnicodeKey TransformKey Attribute PrivateSubtag SubdivisionSuffix
      CurrencyType : Kind

-- Lengths of languages.

-- what such lengths keep to: a language is no singleton and no script
pub record AreLengths (T : LanguageLengths) : Type 0 where
  pub least : (n : ℕ) → T n ≡ true → 2 ≤ n
  pub most : (n : ℕ) → T n ≡ true → n ≤ 8
  pub no_script : (n : ℕ) → T n ≡ true → n ≢ 4

-- the lengths of this library: 2 to 8 letters, but not 4 (UTS #35 3.1)
unfoldable pub languages : ℕ → Bool
languages n = is_in_range 2 3 n || is_in_range 5 8 n

-- Which pieces are words.

-- whether all bytes are letters (UTS #35 3.1, `alpha`)
abbrev pub letters : Text → Bool
letters p = list_all is_ascii_alphabetic p

-- whether all bytes are digits (UTS #35 3.1, `digit`)
abbrev pub digits : Text → Bool
digits p = list_all is_ascii_digit p

-- whether all bytes are letters or digits (UTS #35 3.1, `alphanum`)
abbrev pub letters_or_digits : Text → Bool
letters_or_digits p = list_all is_ascii_alphanumeric p

-- Whether the piece is a word of the kind: `en`, `Latn`, `US` or `419`, `posix` or `1994`, any
-- subtag, `ca`, `m0`, and so on (UTS #35 3.1: language, script, region, variant; 3.2: the others;
-- 3.6.5: subdivisions). A variant of four begins with a digit, so that it is no script.
unfoldable pub is_word : Kind → Text → Bool
is_word (Language T) p = T (length p) && letters p
is_word Script p = (length p == 4) && letters p
is_word Region p = ((length p == 2) && letters p) || ((length p == 3) && list_all is_ascii_digit p)
is_word Variant p = (is_in_range 5 8 (length p)
    || ((length p == 4) && is_ascii_digit (slice_index p 0))) && letters_or_digits p
is_word Subtag p = is_in_range 2 8 (length p) && letters_or_digits p
is_word UnicodeKey p = (length p == 2)
    && (is_ascii_alphanumeric (slice_index p 0) && is_ascii_alphabetic (slice_index p 1))
is_word TransformKey p = (length p == 2)
    && (is_ascii_alphabetic (slice_index p 0) && is_ascii_digit (slice_index p 1))
is_word Attribute p = is_in_range 3 8 (length p) && letters_or_digits p
is_word PrivateSubtag p = is_in_range 1 8 (length p) && letters_or_digits p
is_word SubdivisionSuffix p = is_in_range 1 4 (length p) && letters_or_digits p
is_word CurrencyType p = (length p == 3) && letters p

-- the piece is a word of the kind
abbrev pub IsWord : Kind → Text → Type 0
IsWord k p = is_word k p ≡ true

-- The case of letters.

-- all letters in lower case (UTS #35 3.2.1)
unfoldable pub lower : Text → Text
lower p = map to_ascii_lowercase p

-- all letters in upper case (UTS #35 3.2.1)
unfoldable pub upper : Text → Text
upper p = map to_ascii_uppercase p

-- the first letter in upper case, the others in lower case (UTS #35 3.2.1)
unfoldable pub title : Text → Text
title p = upper (take 1 p) ++ lower (drop 1 p)

-- Comparing words.

-- the order of their bytes: the alphabetical order of UTS #35 3.2.1
abbrev pub word_cmp : Text → Text → Ordering
word_cmp v w = slice_cmp nat_cmp v w

-- whether two words have the same bytes
abbrev pub is_same : Text → Text → Bool
is_same v w = eq_by_cmp word_cmp v w

-- whether the word is `true`, which a value does not need (UTS #35 3.2.1)
unfoldable pub is_true : Text → Bool
is_true w = eq_by_cmp word_cmp (codes "true") w

-- Words in their normal case.

-- the piece in the case of the kind: `Latn`, `US`, and all else in lower case (UTS #35 3.2.1)
abbrev pub normal : Kind → Text → Text
normal Script p = title p
normal Region p = upper p
normal _ p = lower p

-- the normal text, if the piece is a word
abbrev pub word : Kind → Text → Option Text
word k p = if is_word k p then Some (normal k p) else None

-- what reading a piece as a word of the kind answers: the normal text, or the refusal
abbrev pub read : {E : Type 0} → Kind → E → Text → Result Text E
read k refusal p = if is_word k p then Ok (normal k p) else Err refusal

-- Narrow lengths of languages.

-- the narrow lengths: 2 or 3 letters, as in the Rust crate
abbrev pub two_or_three : ℕ → Bool
two_or_three n = is_in_range 2 3 n

-- Raw forms.

-- no language is longer than n
abbrev pub EndsAt : ℕ → (ℕ → Bool) → Type 0
EndsAt n T = (m : ℕ) → T m ≡ true → m ≤ n

-- the greatest length of a kind, when languages have at most n letters
abbrev pub greatest : ℕ → Kind → ℕ
greatest n (Language T) = n
greatest n Script = 4
greatest n Region = 3
greatest n UnicodeKey = 2
greatest n TransformKey = 2
greatest n SubdivisionSuffix = 4
greatest n CurrencyType = 3
greatest n _ = 8

-- no word of the kind is longer than that
abbrev pub Bounds : ℕ → Kind → Type 0
Bounds n (Language T) = EndsAt n T
Bounds n _ = ⊤

-- the word, and zeros up to the greatest length
abbrev pub raw : ℕ → Kind → Text → Text
raw n k w = w ++ replicate (greatest n k - length w) 0

-- with the wide lengths, where a language takes eight bytes; and with the narrow ones, where it
-- takes three
abbrev pub wide_raw : Kind → Text → Text
wide_raw k w = raw 8 k w

-- with the narrow lengths, where a language takes three bytes
abbrev pub narrow_raw : Kind → Text → Text
narrow_raw k w = raw 3 k w

-- what stands before the first zero
abbrev pub before_zero : Text → Text
before_zero [] = []
before_zero (b ∷ bytes) = if b == 0 then [] else b ∷ before_zero bytes

-- Written syntax: what a text is made of, with its words in the order and case of the text. Three
-- parts: the shapes, how each is spelled in pieces, and the rules that it has to follow. Restates
-- UTS #35, section 3: unicode_language_id, unicode_locale_extensions, transformed_extensions,
-- other_extensions, pu_extensions, and unicode_locale_id of all of them.

-- The shapes, each of two types: one for what a text spells, in the order and case of the text, and
-- one for what that means.

-- which of the two it is
pub data Stage : Type 0 where
  Spelled Meant : Stage

-- `en-Latn-US-posix`: a language, perhaps a script and a region, and variants (UTS #35 3.1,
-- `unicode_language_id`)
pub record IdentifierOf (s : Stage) : Type 0 where
  pub language : Text
  pub script : Option Text
  pub region : Option Text
  pub variants : List Text

-- fields: keys, each with the pieces after it, as `ca-islamic-civil` (UTS #35 3.2, `ufield` and
-- `tfield`)
abbrev pub Fields : Type 0
Fields = List Field

-- what follows `u` (UTS #35 3.2, `unicode_locale_extensions`)
pub record UnicodeOf (s : Stage) : Type 0 where
  pub attributes : List Text
  pub keywords : Fields

-- what follows `t` (UTS #35 3.2, `transformed_extensions`)
pub record TransformOf (s : Stage) : Type 0 where
  pub id : Option (IdentifierOf s)
  pub fields : Fields

-- Short names, for files that speak of one of the two alone.

-- an identifier as it is spelled
abbrev pub SpelledIdentifier : Type 0
SpelledIdentifier = IdentifierOf Spelled

-- what follows `u` as it is spelled
abbrev pub SpelledUnicode : Type 0
SpelledUnicode = UnicodeOf Spelled

-- what follows `t` as it is spelled
abbrev pub SpelledTransform : Type 0
SpelledTransform = TransformOf Spelled

-- an identifier that is meant
abbrev pub Identifier : Type 0
Identifier = IdentifierOf Meant

-- what is meant after `u`
abbrev pub Unicode : Type 0
Unicode = UnicodeOf Meant

-- what is meant after `t`
abbrev pub Transform : Type 0
Transform = TransformOf Meant

-- How they are spelled: the pieces, in order.

-- the pieces of an identifier, in the order of UTS #35 3.1: language, script, region, variants
abbrev pub identifier_pieces : {s : Stage} → IdentifierOf s → List Text
identifier_pieces i = i.language
    ∷ (option_to_list i.script ++ (option_to_list i.region ++ i.variants))

-- the pieces of fields: each key, and then its values (UTS #35 3.2, `ufield` and `tfield`)
abbrev pub fields_pieces : Fields → List Text
fields_pieces fs = flat_map (λ (key, values). key ∷ values) fs

-- the pieces after `u`: attributes, then keywords (UTS #35 3.2, `unicode_locale_extensions`)
abbrev pub unicode_pieces : {s : Stage} → UnicodeOf s → List Text
unicode_pieces u = u.attributes ++ fields_pieces u.keywords

-- the pieces of an optional identifier: none if it is absent
abbrev pub optional_pieces : {s : Stage} → Option (IdentifierOf s) → List Text
optional_pieces None = []
optional_pieces (Some i) = identifier_pieces i

-- the pieces after `t`: the identifier, then the fields (UTS #35 3.2, `transformed_extensions`)
abbrev pub transform_pieces : {s : Stage} → TransformOf s → List Text
transform_pieces m = optional_pieces m.id ++ fields_pieces m.fields

-- The rules that they follow.

-- x is among the items, as the order tells which are the same
abbrev pub IsAmong : {X : Type 0} → (X → X → Ordering) → X → List X → Type 0
IsAmong cmp x xs = list_any (eq_by_cmp cmp x) xs ≡ true

-- no item is among the later ones: no variant and no singleton stands twice (UTS #35 3.1, 3.2)
abbrev pub AllDifferent : {X : Type 0} → (X → X → Ordering) → List X → Type 0
AllDifferent cmp [] = ⊤
AllDifferent cmp (x ∷ xs) = ¬ (IsAmong cmp x xs) × AllDifferent cmp xs

-- each piece is a word of its kind (UTS #35 3.1)
pub record HasWords (T : LanguageLengths) (i : IdentifierOf Spelled) : Type 0 where
  pub language : IsWord (Language T) i.language
  pub script : IfSome i.script (IsWord Script)
  pub region : IfSome i.region (IsWord Region)
  pub variants : AllByRecursion (IsWord Variant) i.variants

-- such words, no variant twice in whatever case (UTS #35 3.1, `unicode_language_id`)
pub record IsIdentifier (T : LanguageLengths) (i : IdentifierOf Spelled) : Type 0 where
  pub words : HasWords T i
  pub different : AllDifferent word_cmp (map lower i.variants)

-- a key of `u` with any number of values (UTS #35 3.2, `ufield`)
abbrev pub IsKeyword : Field → Type 0
IsKeyword (key, values) = IsWord UnicodeKey key × AllByRecursion (IsWord Attribute) values

-- one item at least
abbrev pub IsNonempty : {X : Type 0} → List X → Type 0
IsNonempty xs = 0 < length xs

-- a key of `t` with one value or more (UTS #35 3.2, `tfield`)
abbrev pub IsField : Field → Type 0
IsField (key, ws) = IsWord TransformKey key × AllByRecursion (IsWord Attribute) ws × IsNonempty ws

-- attributes and keywords (UTS #35 3.2, `unicode_locale_extensions`)
pub record IsUnicode (u : UnicodeOf Spelled) : Type 0 where
  pub attributes : AllByRecursion (IsWord Attribute) u.attributes
  pub keywords : AllByRecursion IsKeyword u.keywords

-- perhaps an identifier, and fields (UTS #35 3.2, `transformed_extensions`)
pub record IsTransform (T : LanguageLengths) (m : TransformOf Spelled) : Type 0 where
  pub id : IfSome m.id (IsIdentifier T)
  pub fields : AllByRecursion IsField m.fields

-- the words among the pieces, in lower case; the other pieces mean nothing (not in UTS #35: the
-- Rust crate's rule)
abbrev pub kept : List Text → List Text
kept ps = map lower (filter (is_word Subtag) ps)

-- pieces of 2 to 8 bytes, of which one at least is a word (UTS #35 3.2, `other_extensions`, asks
-- that each is)
pub record IsOther (ps : List Text) : Type 0 where
  pub lengths : AllByRecursion (λ p. is_in_range 2 8 (length p) ≡ true) ps
  pub nonempty : IsNonempty (kept ps)

-- what follows `x`: private words, one at least (UTS #35 3.2, `pu_extensions`)
pub record IsPrivate (ps : List Text) : Type 0 where
  pub words : AllByRecursion (IsWord PrivateSubtag) ps
  pub nonempty : IsNonempty ps

-- of a singleton in lower case: a letter or digit other than `t`, `u` and `x`, which have rules of
-- their own (UTS #35 3.2)
abbrev pub is_other_singleton : ℕ → Bool
is_other_singleton c = is_ascii_alphanumeric c && not (c == code_t || c == code_u || c == code_x)

-- the singleton of an extension or a block, in lower case (UTS #35 3.2.1)
abbrev pub lower_singleton : {X : Type 0} → ℕ × X → ℕ
lower_singleton (c, _) = to_ascii_lowercase c

-- Each spelling has one reading: blocks end at pieces of one byte, and fields at keys.
use Rattle.std.proofs.Common.{◌≡◌, ◌≢◌, ℕ, ◌≤◌, Bool, true, false, ◌==◌, List, [], ◌∷◌, ◌++◌, length, map, flat_map, refl, ap, ◌∙◌, arith, Option, Some, None, IfSome, option_to_list, slice_index, append-nil}
use Rattle.std.specs.List.{AllByRecursion, list_all}
use Rattle.std.specs.Char.{is_ascii_alphabetic, is_ascii_digit}
use Rattle.std.proofs.lemmas.Bool.{and_parts, false_from_ne_true, or_cases, ne_eqb, eqb-true}
use Rattle.std.proofs.lemmas.Bool.Decides.{nat_tests}
use Rattle.std.specs.Int.{is_in_range}
use Rattle.iloc_spec_grammar.specs.Syntax.{LanguageLengths, Block, code_x, Text, Language, Script, Region, Variant, UnicodeKey, TransformKey, Attribute, is_word, IsWord, AreLengths, SpelledIdentifier, SpelledUnicode, SpelledTransform, Fields, identifier_pieces, optional_pieces, fields_pieces, unicode_pieces, transform_pieces, HasWords, IsIdentifier, IsKeyword, IsField, IsUnicode, IsTransform, lower_singleton, is_one_byte, front, blocks, head, tail_blocks, IsPrivate}
use Rattle.iloc_spec_grammar.specs.Tree.{Extension, unicode, transform, other, Written, extension_pieces, extension_block, block_pieces, blocks_of, spelling, IsUnicodeBlock, IsTransformBlock, IsExtension, IsWritten, TreeMeans}
use Rattle.iloc_spec_grammar.specs.Meaning.{Locale}
use Rattle.iloc_spec_grammar.proofs.WordsLaws.{length-language, length-script, length-region, length-variant, length-attribute, length-unicode_key, length-transform_key}
use Rattle.iloc_spec_grammar.proofs.IdentifierLaws.{pieces-identifier_of, identifier_of-pieces}
use Rattle.iloc_spec_grammar.specs.Reading.{identifier_of, before_key, fields_from, is_two, unicode_of, optional_of, transform_of, extension_of, extensions_in, private_in, written_of}
use Rattle.iloc_spec_grammar.proofs.ValuesLaws.{all_weaker}
use Rattle.iloc_spec_grammar.proofs.ReadBack.{all_append, after_language_each, optional_each, fields_each, plain_fields}
use Rattle.iloc_spec_grammar.proofs.Singletons.{no_t, no_u}

-- pieces of more than one byte

abbrev pub IsLong : Text → Type 0
IsLong p = is_one_byte p ≡ false

pub long : (n : ℕ) → 2 ≤ n → (n == 1) ≡ false
long n h = ne_eqb _ _ (λ e. absurd (omega arith))

pub long_script : (p : Text) → IsWord Script p → IsLong p
long_script p h = simp length-script

pub long_region : (p : Text) → IsWord Region p → IsLong p
long_region p h = long _ (length-region p h).0

pub long_variant : (p : Text) → IsWord Variant p → IsLong p
long_variant p h = long _ (let l = length-variant p h in omega arith)

pub long_attribute : (p : Text) → IsWord Attribute p → IsLong p
long_attribute p h = long _ (let l = length-attribute p h in omega arith)

-- the pieces after the language
abbrev pub after_language : SpelledIdentifier → List Text
after_language i = option_to_list i.script ++ (option_to_list i.region ++ i.variants)

pub long_after_language : {T : ℕ → Bool} (i : SpelledIdentifier) → HasWords T i →
    AllByRecursion IsLong (after_language i)
long_after_language i h = after_language_each IsLong long_script long_region long_variant i h

long_identifier : (T : LanguageLengths) → AreLengths T → (i : SpelledIdentifier) → HasWords T i →
    AllByRecursion IsLong (identifier_pieces i)
long_identifier T t i h = grind (arith, long, length-language, long_after_language)

long_key : (p : Text) → length p ≡ 2 → IsLong p
long_key p h = cc

pub long_between : (p : Text) → is_in_range 2 8 (length p) ≡ true → IsLong p
long_between p h = grind (arith, nat_tests)

pub long_extension : (T : LanguageLengths) → AreLengths T → (c : ℕ) (e : Extension) → IsExtension T c e →
    AllByRecursion IsLong (extension_pieces e)
long_extension T t c (unicode u) h = all_append IsLong u.attributes _
    (search (all_weaker, long_attribute)) (fields_each IsLong
    UnicodeKey (λ p k. long_key p (length-unicode_key p k)) long_attribute u.keywords h.1.keywords)
long_extension T t c (transform m) h = all_append IsLong (optional_pieces m.id) _
    (optional_each IsLong T (long_identifier T t) m.id h.1.id) (fields_each IsLong TransformKey
    (λ p k. long_key p (length-transform_key p k)) long_attribute m.fields (plain_fields m.fields h.1.fields))
long_extension T t c (other ps) h = search (all_weaker, long_between)

-- blocks

front_before : (xs : List Text) (bs : List Block) → AllByRecursion IsLong xs →
    front (xs ++ flat_map block_pieces bs) ≡ xs
front_before [] [] h = refl
front_before [] (b ∷ bs) h = refl
front_before (x ∷ xs) bs h = search (front_before xs bs h.1)

pub blocks_skip : (p : Text) (ps : List Text) → IsLong p → blocks (p ∷ ps) ≡ blocks ps
blocks_skip [] ps h = refl
blocks_skip (c ∷ []) ps h = cc
blocks_skip (c ∷ d ∷ p) ps h = refl

pub blocks_past : (xs ys : List Text) → AllByRecursion IsLong xs → blocks (xs ++ ys) ≡ blocks ys
blocks_past [] ys h = refl
blocks_past (x ∷ xs) ys h = blocks_skip x (xs ++ ys) h.0 ∙ blocks_past xs ys h.1

pub blocks_spelled : (bs : List Block) (x : Option Block) →
    AllByRecursion (λ b. ((lower_singleton b == code_x) ≡ false) × AllByRecursion IsLong b.1) bs →
    IfSome x (λ b. (lower_singleton b == code_x) ≡ true) →
    blocks (flat_map block_pieces (bs ++ option_to_list x)) ≡ bs ++ option_to_list x
blocks_spelled [] None h k = refl
blocks_spelled [] (Some b) h k = grind (arith, append-nil)
blocks_spelled (b ∷ bs) x h k = grind (arith, front_before, blocks_past, blocks_spelled bs x h.1 k)

pub is_no_x : (T : LanguageLengths) (c : ℕ) (e : Extension) → IsExtension T c e → (c == code_x) ≡ false
is_no_x T c (other ps) h = grind (arith, nat_tests, h.0)
is_no_x T c _ h = rw h.0

is_120 : (x : Option Block) → IfSome x (λ e. (lower_singleton e ≡ code_x) × IsPrivate e.1) →
    IfSome x (λ b. (lower_singleton b == code_x) ≡ true)
is_120 None h = tt
is_120 (Some b) h = rw h.0

-- each extension has pieces of more than one byte
abbrev pub AreLong : List (ℕ × Extension) → Type 0
AreLong es = AllByRecursion (λ e. AllByRecursion IsLong (extension_pieces e.1)) es

extension_blocks : (T : LanguageLengths) (es : List (ℕ × Extension)) →
    AllByRecursion (λ e. IsExtension T (lower_singleton e) e.1) es → AreLong es →
    AllByRecursion (λ b. ((lower_singleton b == code_x) ≡ false) × AllByRecursion IsLong b.1)
    (map extension_block es)
extension_blocks T [] h l = tt
extension_blocks T (e ∷ es) h l = ((is_no_x T _ e.1 h.0, l.0), extension_blocks T es h.1 l.1)

-- the head and the blocks of a spelling
pub head-spelling : {T : ℕ → Bool} (w : Written) → IsWritten T w → head (spelling w) ≡ identifier_pieces w.id
head-spelling w h = grind (arith, front_before, long_after_language)

pub blocks-spelling-long : {T : ℕ → Bool} (w : Written) → IsWritten T w → AreLong w.extensions →
    tail_blocks (spelling w) ≡ blocks_of w
blocks-spelling-long {T = T} w h l = blocks_past (after_language w.id) _ (long_after_language w.id h.id.words)
    ∙ blocks_spelled (map extension_block w.extensions) w.private
    (extension_blocks T w.extensions h.extensions l) (is_120 w.private h.private)

pub blocks-spelling : {T : ℕ → Bool} → AreLengths T → (w : Written) → IsWritten T w →
    tail_blocks (spelling w) ≡ blocks_of w
blocks-spelling t w h = search (blocks-spelling-long, all_weaker, long_extension)

-- fields

abbrev pub KeysPass : (Text → Bool) → Fields → Type 0
KeysPass test fs = AllByRecursion (λ f. (test f.0 ≡ true) × AllByRecursion (λ p. test p ≡ false) f.1) fs

pub before_key_read : (test : Text → Bool) (xs : List Text) (fs : Fields) →
    AllByRecursion (λ p. test p ≡ false) xs → KeysPass test fs → before_key test (xs ++ fields_pieces fs) ≡ xs
before_key_read test [] [] h k = refl
before_key_read test [] (f ∷ fs) h k = rw k.0.0
before_key_read test (x ∷ xs) fs h k = search (before_key_read test xs fs h.1 k)

pub fields_past : (test : Text → Bool) (xs ys : List Text) → AllByRecursion (λ p. test p ≡ false) xs →
    fields_from test (xs ++ ys) ≡ fields_from test ys
fields_past test [] ys h = refl
fields_past test (x ∷ xs) ys h = rw h.0 (fields_past test xs ys h.1)

pub fields_read : (test : Text → Bool) (fs : Fields) → KeysPass test fs →
    fields_from test (fields_pieces fs) ≡ fs
fields_read test [] k = refl
fields_read test (f ∷ fs) k = grind (arith, before_key_read, fields_past, fields_read test fs k.1)

-- reading loses nothing
pub fields_all : (test : Text → Bool) (ps : List Text) →
    before_key test ps ++ fields_pieces (fields_from test ps) ≡ ps
fields_all test [] = refl
fields_all test (p ∷ ps) = grind (arith, fields_all test ps)

-- the unicode part: a key is a piece of two bytes

pub not_two : (p : Text) → IsWord Attribute p → is_two p ≡ false
not_two p h = grind (arith, length-attribute, ne_eqb)

pub two : (p : Text) → IsWord UnicodeKey p → is_two p ≡ true
two p h = rw (length-unicode_key p h)

pub keywords_pass : (fs : Fields) → AllByRecursion IsKeyword fs → KeysPass is_two fs
keywords_pass = grind (arith, all_weaker, two, not_two)

pub unicode_read : (u : SpelledUnicode) → IsUnicode u → unicode_of (unicode_pieces u) ≡ u
unfolding unicode_of
unicode_read u h = search (all_weaker, not_two, keywords_pass, fields_past, fields_read, before_key_read)

pub unicode_of-pieces : (u : SpelledUnicode) → IsUnicodeBlock u → unicode_of (unicode_pieces u) ≡ u
unicode_of-pieces u h = search unicode_read

pub pieces-unicode_of : (ps : List Text) → unicode_pieces (unicode_of ps) ≡ ps
unfolding unicode_of
pieces-unicode_of ps = fields_all is_two ps

-- the transform part: no word of an identifier is a key

abbrev pub IsNoKey : Text → Type 0
IsNoKey p = is_word TransformKey p ≡ false

no_key_by_length : (p : Text) → length p ≢ 2 → IsNoKey p
no_key_by_length p h = false_from_ne_true _ (λ k. h (length-transform_key p k))

digit_no_letter : (c : ℕ) → is_ascii_digit c ≡ true → is_ascii_alphabetic c ≡ true → ⊥
digit_no_letter c h k = grind (arith, nat_tests)

second_letter : (p : Text) → list_all is_ascii_alphabetic p ≡ true → length p ≡ 2 →
    is_ascii_alphabetic (slice_index p 1) ≡ true
second_letter (c ∷ d ∷ p) h e = (and_parts _ _ (and_parts _ _ h).1).0
second_letter _ h e = cc

letters_no_key : (p : Text) → list_all is_ascii_alphabetic p ≡ true → IsNoKey p
unfolding is_word
letters_no_key p h = grind (
  arith,
  false_from_ne_true,
  digit_no_letter,
  second_letter,
  length-transform_key,
  and_parts,
)

pub language_no_key : (T : LanguageLengths) (p : Text) → IsWord (Language T) p → IsNoKey p
unfolding is_word
language_no_key T p h = letters_no_key p (and_parts _ _ h).1

region_no_key : (p : Text) → IsWord Region p → IsNoKey p
unfolding is_word
region_no_key p h = grind (arith, or_cases, letters_no_key, and_parts, no_key_by_length, eqb-true)

script_no_key : (p : Text) → IsWord Script p → IsNoKey p
script_no_key p h = no_key_by_length p (let l = length-script p h in omega arith)

variant_no_key : (p : Text) → IsWord Variant p → IsNoKey p
variant_no_key p h = no_key_by_length p (let l = length-variant p h in omega arith)

pub attribute_no_key : (p : Text) → IsWord Attribute p → IsNoKey p
attribute_no_key p h = no_key_by_length p (let l = length-attribute p h in omega arith)

pub identifier_no_key : {T : ℕ → Bool} (i : SpelledIdentifier) → HasWords T i →
    AllByRecursion IsNoKey (identifier_pieces i)
identifier_no_key {T = T} i h = (
  language_no_key T i.language h.language,
  after_language_each IsNoKey script_no_key region_no_key variant_no_key i h,
)

pub optional_no_key : (T : LanguageLengths) (o : Option SpelledIdentifier) → IfSome o (IsIdentifier T) →
    AllByRecursion IsNoKey (optional_pieces o)
optional_no_key T = optional_each IsNoKey T identifier_no_key

pub fields_pass : (fs : Fields) → AllByRecursion IsField fs → KeysPass (is_word TransformKey) fs
fields_pass = grind (arith, all_weaker, attribute_no_key)

optional_read : (T : LanguageLengths) (o : Option SpelledIdentifier) → IfSome o (IsIdentifier T) →
    optional_of (optional_pieces o) ≡ o
optional_read T None h = refl
optional_read T (Some i) h = ap Some (identifier_of-pieces i h.words)

pub transform_read : {T : ℕ → Bool} (m : SpelledTransform) → IsTransform T m →
    transform_of (transform_pieces m) ≡ m
unfolding transform_of
transform_read {T = T} m h =
    grind (arith, optional_no_key, fields_pass, before_key_read, optional_read, fields_past, fields_read)

pub transform_of-pieces : {T : ℕ → Bool} (m : SpelledTransform) → IsTransformBlock T m →
    transform_of (transform_pieces m) ≡ m
transform_of-pieces m h = grind (arith, transform_read)

pieces-optional_of : (ps : List Text) → optional_pieces (optional_of ps) ≡ ps
pieces-optional_of [] = refl
pieces-optional_of (p ∷ ps) = pieces-identifier_of p ps

pub pieces-transform_of : (ps : List Text) → transform_pieces (transform_of ps) ≡ ps
unfolding transform_of
pieces-transform_of ps = rw (pieces-optional_of, fields_all)

-- blocks

pub extension_of-pieces : (T : LanguageLengths) (c : ℕ) (e : Extension) → IsExtension T c e →
    extension_of c (extension_pieces e) ≡ e
extension_of-pieces T c (unicode u) h = rw h.0 (ap unicode (unicode_of-pieces u h.1))
extension_of-pieces T c (transform m) h = rw h.0 (ap transform (transform_of-pieces m h.1))
extension_of-pieces T c (other ps) h = search (ne_eqb, no_t, no_u)

pub pieces-extension_of : (c : ℕ) (ps : List Text) → extension_pieces (extension_of c ps) ≡ ps
pieces-extension_of c ps = grind (arith, pieces-transform_of, pieces-unicode_of)

-- whole texts

parts_read : (T : LanguageLengths) (es : List (ℕ × Extension)) (x : Option Block) →
    AllByRecursion (λ e. IsExtension T (lower_singleton e) e.1) es →
    IfSome x (λ b. (lower_singleton b == code_x) ≡ true) →
    (extensions_in (map extension_block es ++ option_to_list x) ≡ es)
    × (private_in (map extension_block es ++ option_to_list x) ≡ x)
parts_read T [] None h k = (refl, refl)
parts_read T [] (Some b) h k = rw k (refl, refl)
parts_read T (e ∷ es) x h k = grind (arith, is_no_x, extension_of-pieces, parts_read T es x h.1 k)

-- what is spelled is read
pub written_of-spelling : {T : ℕ → Bool} → AreLengths T → (w : Written) → IsWritten T w →
    written_of (spelling w) ≡ w
unfolding written_of
written_of-spelling {T = T} t w h =
    let id : identifier_of (head (spelling w)) ≡ w.id =
    grind (arith, head-spelling, identifier_of-pieces) in
    let parts = parts_read T w.extensions w.private h.extensions (is_120 w.private h.private) in
    grind (arith, blocks-spelling)

-- a text means one value at most
pub one_meaning : {T : ℕ → Bool} → AreLengths T → (t : Text) (L M : Locale) → TreeMeans T t L →
    TreeMeans T t M → L ≡ M
one_meaning table t L M a b = grind (arith, written_of-spelling)

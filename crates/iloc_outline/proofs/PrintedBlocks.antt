-- What the parts of a good block print is what its value prints.
use Rattle.std.proofs.Common.{◌≡◌, ◌⊎◌, inl, inr, ℕ, ◌+◌, ◌<◌, ◌==◌, Bool, true, false, cond, List, [], ◌∷◌, ◌++◌, length, map, flat_map, refl, sym, ap, ◌∙◌, arith, Option, Some, None, option_map, append_assoc, length-append, append-nil, IfSome, if◌then◌else◌}
use Rattle.std.specs.Char.{is_ascii_alphanumeric, to_ascii_lowercase}
use Rattle.std.specs.declared.cmp.Ordering.{Ordering}
use Rattle.std.specs.FinMap.{put}
use Rattle.std.proofs.lemmas.Bool.{ne_eqb}
use Rattle.std.proofs.lemmas.List.{length-map}
use Rattle.std.proofs.lemmas.List.Concat.{flat_map-append}
use Rattle.iloc_spec_grammar.specs.Syntax.{Text, Block, SpelledIdentifier, SpelledUnicode, SpelledTransform, Fields, IsIdentifier, code_t, code_u, code_x, lower, kept, is_other_singleton, lower_singleton, fields_pieces, optional_pieces, IsOther, IsPrivate}
use Rattle.iloc_spec_grammar.specs.Meaning.{map_of, set_of, normal_identifier, normal_fields, normal_unicode, normal_transform}
use Rattle.iloc_spec_grammar.specs.Tree.{IsUnicodeBlock, IsTransformBlock, IsExtension}
use Rattle.iloc_spec_grammar.specs.Values.{printed_pieces, spelled_fields, unicode_spelling, transform_spelling, other_spelling, private_spelling}
use Rattle.iloc_spec_grammar.specs.Reading.{unicode_of, transform_of, extension_of}
use Rattle.iloc_spec_grammar.specs.Computing.{is_block}
use Rattle.iloc_spec_grammar.proofs.General.{all_mapped, all_of}
use Rattle.iloc_spec_grammar.proofs.ValuesLaws.{map_fixed, length-spelled_fields}
use Rattle.iloc_spec_grammar.proofs.WellRead.{all-set_of}
use Rattle.iloc_spec_grammar.proofs.WordsLaws.{lower-lower, lower-title, lower-upper}
use Rattle.iloc_spec_grammar.proofs.RuleTests.{tests_block, extension_read}
use Rattle.iloc_spec_grammar.proofs.Singletons.{of_u, of_t, of_x, another, kind_of, lower_letter, no_t, no_u, no_x}
use Rattle.iloc_outline.specs.Parts.{Part, singleton_part, variant_parts, optional_front, optional_variants, unicode_parts, transform_parts, block_parts, printed_part}
use Rattle.iloc_outline.proofs.PartsInOrder.{variants_printed, attributes_printed, keywords_printed, values_printed}

-- what a block prints by its value; c is its singleton in lower case
abbrev pub spelled : ℕ → List Text → List Text
spelled c ps = if c == code_t then transform_spelling (normal_transform (transform_of ps))
    else if c == code_u then unicode_spelling (normal_unicode (unicode_of ps))
    else if c == code_x then private_spelling (map lower ps)
    else other_spelling (c, kept ps)

-- ---- what is there prints

printed_some : (c : ℕ) (ps : List Text) → 0 < length ps → printed_pieces (c, ps) ≡ (c ∷ []) ∷ ps
printed_some c [] h = absurd (omega arith)
printed_some c (p ∷ ps) h = refl

some_put : {K X : Type 0} (R : K → K → Ordering) (k : K) (v : X) (es : List (K × X))
    → 0 < length (put R k v es)
some_put R k v [] = omega arith
some_put R k v (e ∷ es) = grind arith

some_map : {K X : Type 0} (R : K → K → Ordering) (es : List (K × X)) → 0 < length es
    → 0 < length (map_of R es)
some_map R [] h = absurd (omega arith)
some_map R (e ∷ es) h = some_put R e.0 e.1 (map_of R es)

some_fields : (fs : Fields) → 0 < length fs → 0 < length (fields_pieces fs)
some_fields [] h = h
some_fields (f ∷ fs) h = omega arith

-- ---- an identifier after `t`

set_low : (ws : List Text) → map lower (set_of (map lower ws)) ≡ set_of (map lower ws)
set_low ws = map_fixed lower (set_of (map lower ws))
    (all-set_of (λ w. lower w ≡ w) (map lower ws)
    (all_mapped (λ (w : Text). lower (lower w) ≡ lower w) (λ w. lower w ≡ w) lower (λ w e. e) ws
    (all_of _ lower-lower ws)))

-- ---- singletons

-- ---- each block

some_words : (ws : List Text) → 0 < length ws → 0 < length (set_of ws)
some_words ws h = search (some_map, length-map)

some_normal : (fs : Fields) → 0 < length fs → 0 < length (normal_fields fs)
some_normal fs h = search (some_map, length-map)

some_unicode : (ws : List Text) (fs : Fields) → 0 < length ws + length fs
    → 0 < length (set_of (map lower ws) ++ fields_pieces (normal_fields fs))
some_unicode [] fs h = grind (arith, some_fields, some_normal)
some_unicode (w ∷ ws) fs h = omega (
  arith,
  some_words (map lower (w ∷ ws)) (omega arith),
  length-append (set_of (map lower (w ∷ ws))) (fields_pieces (normal_fields fs)),
)

unicode_printed : (u : SpelledUnicode) → IsUnicodeBlock u →
    (code_u ∷ []) ∷ flat_map printed_part (unicode_parts u)
    ≡ unicode_spelling (normal_unicode u)
unfolding unicode_spelling
unicode_printed u h = search (
  flat_map-append,
  attributes_printed,
  keywords_printed,
  printed_some,
  some_unicode,
)

some_transform : (o : Option SpelledIdentifier) (fs : Fields) → (o ≡ None → 0 < length fs)
    → 0 < length (map lower (optional_pieces (option_map normal_identifier o)) ++ fields_pieces
    (spelled_fields (normal_fields fs)))
some_transform None fs h = search (some_fields, some_normal, length-spelled_fields)
some_transform (Some i) fs h = omega arith

optional_printed : (T : ℕ → Bool) (o : Option SpelledIdentifier) → IfSome o (IsIdentifier T)
    → map lower (optional_front o) ++ flat_map printed_part (variant_parts (optional_variants o))
    ≡ map lower (optional_pieces (option_map normal_identifier o))
optional_printed T None h = refl
optional_printed T (Some i) h = grind (
  arith,
  variants_printed,
  lower-lower,
  set_low,
  lower-upper,
  lower-title,
)

transform_printed : (T : ℕ → Bool) (m : SpelledTransform) → IsTransformBlock T m
    → (code_t ∷ []) ∷ (map lower (optional_front m.id) ++ flat_map printed_part (transform_parts m))
    ≡ transform_spelling (normal_transform m)
unfolding transform_spelling
transform_printed T m h = grind (
  arith,
  flat_map-append,
  append_assoc,
  optional_printed,
  values_printed,
  printed_some,
  some_transform,
)

private_printed : (ps : List Text) → IsPrivate ps → (code_x ∷ []) ∷ map lower ps
    ≡ private_spelling (map lower ps)
unfolding private_spelling
private_printed ps h = search (printed_some, length-map)

-- ---- all

-- the parts of a block whose singleton in lower case is c
abbrev parts_at : ℕ → Block → List Part
parts_at c b = if c == code_t then singleton_part b.0 (optional_front (transform_of b.1).id) ∷ transform_parts
    (transform_of b.1)
    else if c == code_u then singleton_part b.0 [] ∷ unicode_parts (unicode_of b.1)
    else singleton_part b.0 b.1 ∷ []

start : (c d : ℕ) → to_ascii_lowercase c ≡ d → (ps : List Text) (rest : List Part)
    → flat_map printed_part (singleton_part c ps ∷ rest)
    ≡ (d ∷ []) ∷ (cond (is_other_singleton d) (kept ps) (map lower ps) ++ flat_map printed_part rest)
unfolding lower
start c d e ps rest = grind (arith)

abbrev pub Rule : (ℕ → Bool) → ℕ → List Text → Type 0
Rule T c ps = ((c ≡ code_x) × IsPrivate ps) ⊎ IsExtension T c (extension_of c ps)

-- a good block follows the rule of its singleton
pub rule_of : (T : ℕ → Bool) (b : Block) (c : ℕ) → lower_singleton b ≡ c → is_block T b ≡ true → Rule T c b.1
rule_of T b c e g = rw (← e) (elim ((tests_block T b).holds g) [
  | inl x ↦ inl x
  | inr x ↦
      inr (extension_read T (lower_singleton b) b.1 x)
])

u_rule : (T : ℕ → Bool) (ps : List Text) → Rule T code_u ps → IsUnicodeBlock (unicode_of ps)
u_rule T ps (inl x) = absurd (let e = x.0 in omega arith)
u_rule T ps (inr x) = x.1

-- that of `t`
pub t_rule : (T : ℕ → Bool) (ps : List Text) → Rule T code_t ps → IsTransformBlock T (transform_of ps)
t_rule T ps (inl x) = absurd (let e = x.0 in omega arith)
t_rule T ps (inr x) = x.1

x_rule : (T : ℕ → Bool) (ps : List Text) → Rule T code_x ps → IsPrivate ps
x_rule T ps (inl x) = x.1
x_rule T ps (inr x) = absurd (no_x code_x refl x.0)

other_rule : (T : ℕ → Bool) (c : ℕ) (ps : List Text) → is_other_singleton c ≡ true → Rule T c ps → IsOther ps
other_rule T c ps o (inl x) = absurd (no_x c x.0 o)
other_rule T c ps o (inr x) = grind (arith, ne_eqb, no_t, no_u)

-- the parts of a good block print what its value prints
pub block_printed : (T : ℕ → Bool) (b : Block) → is_ascii_alphanumeric b.0 ≡ true → is_block T b ≡ true
    → flat_map printed_part (block_parts b) ≡ spelled (lower_singleton b) b.1
unfolding other_spelling
block_printed T b a g = elim (kind_of (lower_singleton b) (lower_letter b.0 a)) [
  | of_u k ↦
      ap (λ c. flat_map printed_part (parts_at c b)) k
      ∙ start b.0 code_u k [] (unicode_parts (unicode_of b.1))
      ∙ unicode_printed (unicode_of b.1) (u_rule T b.1 (rule_of T b code_u k g))
      ∙ ap (λ c. spelled c b.1) (sym k)
  | of_t k ↦ ap (λ c. flat_map printed_part (parts_at c b)) k
      ∙ start b.0 code_t k (optional_front (transform_of b.1).id) (transform_parts (transform_of b.1))
      ∙ transform_printed T (transform_of b.1) (t_rule T b.1 (rule_of T b code_t k g))
      ∙ ap (λ c. spelled c b.1) (sym k)
  | of_x k ↦ ap (λ c. flat_map printed_part (parts_at c b)) k ∙ start b.0 code_x k b.1 []
      ∙ ap (λ l. (code_x ∷ []) ∷ l) (append-nil (map lower b.1))
      ∙ private_printed b.1 (x_rule T b.1 (rule_of T b code_x k g)) ∙ ap (λ c. spelled c b.1) (sym k)
  | another o ↦
      let c : ℕ = lower_singleton b in
      let t : (c == code_t) ≡ false = ne_eqb _ _ (λ e. no_t c e o) in
      let u : (c == code_u) ≡ false = ne_eqb _ _ (λ e. no_u c e o) in
      let x : (c == code_x) ≡ false = ne_eqb _ _ (λ e. no_x c e o) in
      let k : IsOther b.1 = other_rule T c b.1 o (rule_of T b c refl g) in
      let one : flat_map printed_part (singleton_part b.0 b.1 ∷ []) ≡ other_spelling (c, kept b.1) =
      start b.0 c refl b.1 [] ∙ ap (λ h. (c ∷ []) ∷ (cond h (kept b.1) (map lower b.1) ++ [])) o
      ∙ ap (λ l. (c ∷ []) ∷ l) (append-nil (kept b.1)) ∙ (search printed_some) in
      search
]

-- Each block of an inline text has few words.
use Rattle.std.proofs.Common.{◌≡◌, ℕ, ◌≤◌, Bool, true, false, ◌==◌, List, [], ◌∷◌, ◌++◌, length, map, filter, refl, sym, ap, ◌∙◌, arith, Option, Some, None, IfSome, option_map, true≢false, append-nil}
use Rattle.std.specs.List.{AllByRecursion, list_any}
use Rattle.std.specs.Ordering.{nat_cmp, eq_by_cmp}
use Rattle.std.proofs.lemmas.Bool.{or_parts, eq-eqb, false_from_ne_true}
use Rattle.std.proofs.lemmas.Bool.Decides.{nat_tests}
use Rattle.std.proofs.lemmas.List.{length-map}
use Rattle.iloc_spec_grammar.specs.Syntax.{LanguageLengths, Block, code_x, code_u, Text, pieces, AreLengths, PrivateSubtag, is_word, lower, word_cmp, Spelled, SpelledIdentifier, SpelledUnicode, SpelledTransform, Fields, identifier_pieces, unicode_pieces, transform_pieces, IsIdentifier, IsUnicode, AllDifferent, is_other_singleton, lower_singleton, head, tail_blocks}
use Rattle.iloc_spec_grammar.specs.Meaning.{normal_identifier, normal_values, normal_unicode, normal_transform, after}
use Rattle.iloc_spec_grammar.specs.Reading.{passing, IdentifierFront}
use Rattle.iloc_spec_grammar.proofs.IdentifierLaws.{one_identifier}
use Rattle.iloc_spec_grammar.proofs.SetLaws.{length-set_of-different}
use Rattle.iloc_spec_parts.specs.Inline.{IsInline, IsShortUnicode, IsShortTransform, IsShortBlock, IsInlineByBlocks, ReachesLongBlock}
use Rattle.iloc_spec_parts.specs.Fronts.{FrontRead, absent, present}
use Rattle.iloc_spec_parts.proofs.FrontLaws.{unicode_taken, keywords_taken}
use Rattle.iloc_spec_parts.proofs.KeptLaws.{kept_all, passing_short, some_fields}
use Rattle.iloc_spec_parts.proofs.ShortFronts.{IsShortByFronts, short_by_fronts, short_unicode_front, none_first}
use Rattle.iloc_spec_parts.proofs.SmallShapes.{no_normal_fields}
use Rattle.iloc_spec_parts.proofs.TransformLaws.{one_front, one_longest, front_language, transform_spelled}
use Rattle.iloc_spec_grammar.proofs.SameMeaning.{none_after}

-- the pieces after the singleton of a block are its own

later_after : (d : Block) (all bs : List Block) →
    list_any (eq_by_cmp nat_cmp (lower_singleton d)) (map (λ b. lower_singleton b) bs) ≡ false →
    AllByRecursion (λ b. after (lower_singleton b) all ≡ b.1) bs →
    AllByRecursion (λ b. after (lower_singleton b) (d ∷ all) ≡ b.1) bs
later_after d all [] n h = tt
later_after d all (b ∷ bs) n h = let parts = or_parts _ _ n in
    grind (arith, later_after d all bs parts.1 h.1)
  where
    differ : (q c : ℕ) → eq_by_cmp nat_cmp q c ≡ false → (q == c) ≡ false
    differ q c h = grind (arith, nat_tests)

pub each_after : (bs : List Block) → AllDifferent nat_cmp (map (λ b. lower_singleton b) bs) →
    AllByRecursion (λ b. after (lower_singleton b) bs ≡ b.1) bs
each_after [] d = tt
each_after (b ∷ bs) d = (
  grind (arith, eq-eqb, none_after, false_from_ne_true, append-nil),
  later_after b bs bs (false_from_ne_true _ d.0) (each_after bs d.1),
)

-- the parts

short_unicode : (u : SpelledUnicode) → IsUnicode u → length (normal_unicode u).attributes ≤ 4 →
    length (normal_unicode u).keywords ≤ 1 → AllByRecursion (λ f. length (normal_values f.1) ≤ 4) u.keywords →
    IsShortUnicode (unicode_pieces u)
short_unicode u g a k v =
    let taken = unicode_taken u [] g refl in grind (arith, keywords_taken, kept_all, short_unicode_front)

few_variants : (i : SpelledIdentifier) → AllDifferent word_cmp (map lower i.variants) →
    length (normal_identifier i).variants ≤ 4 → length i.variants ≤ 4
few_variants i d h = grind (arith, length-set_of-different, length-map)

front_few : {T : ℕ → Bool} (ps : List Text) {o : Option SpelledIdentifier} {middle : List Text} →
    FrontRead T ps o middle → IfSome (option_map normal_identifier o) (λ i. length i.variants ≤ 4) →
    (i : SpelledIdentifier) (rest : List Text) → IdentifierFront T ps i rest → length i.variants ≤ 4
front_few ps (absent e) h i rest f = grind (arith, true≢false, front_language)
front_few ps (present {i = j} {rest = more} g k) h i rest f =
    rw (one_longest ps i j rest more f k).0 (few_variants j g.different h)

short_identifier : {T : ℕ → Bool} (i : SpelledIdentifier) → IsIdentifier T i →
    length (normal_identifier i).variants ≤ 4 → IsShortTransform T (identifier_pieces i)
short_identifier {T = T} i g v =
    let m : SpelledTransform = record { id = Some i; fields = [] } in
    let ps = transform_pieces m in
    let r = transform_spelled ps [] (normal_transform m) (record {
      written = m;
      grammatical = record { id = g; fields = tt; nonempty = λ e. absurd (cc) };
      spelled = refl;
      means = refl;
    }) refl in
    grind (
      arith,
      IsShortByFronts,
      front_few,
      some_fields,
      one_front,
      no_normal_fields,
      append-nil,
      short_by_fronts,
    )

short_transform : {T : ℕ → Bool} → AreLengths T → (o : Option SpelledIdentifier) → IfSome o (IsIdentifier T) →
    IfSome o (λ i. length (normal_identifier i).variants ≤ 4) → (fs : Fields) → fs ≡ [] →
    IsShortTransform T (transform_pieces {s = Spelled} (record { id = o; fields = fs }))
short_transform table None g v fs e = grind (arith, none_first)
short_transform table (Some i) g v fs e = grind (arith, append-nil, short_identifier)

-- no block is another

abbrev Others : List Block → List Block
Others bs =
    filter {X = Block} (λ b. is_other_singleton b.0) (map (λ b. (lower_singleton b, b.1)) bs)

no_first_other : (b : Block) (bs : List Block) → Others (b ∷ bs) ≡ [] →
    (is_other_singleton (lower_singleton b) ≡ true → ⊥) × (Others bs ≡ [])
no_first_other b bs e = grind (arith, true≢false)

no_other : (bs : List Block) → Others bs ≡ [] →
    AllByRecursion (λ b. is_other_singleton (lower_singleton b) ≡ true → ⊥) bs
no_other [] e = tt
no_other (b ∷ bs) e = let first = no_first_other b bs e in (first.0, no_other bs first.1)

-- the blocks

module _ (T : LanguageLengths) (table : AreLengths T) (t : Text) (h : IsInline T t) where
  short_block : (b : Block) → after (lower_singleton b) (tail_blocks (pieces t)) ≡ b.1 →
      (is_other_singleton (lower_singleton b) ≡ true → ⊥) → IsShortBlock T b
  short_block b own none = record {
    unicode = λ s. rw (sym h.spelled.unicode.1 ∙ at code_u s)
        at (short_unicode h.extensions.unicode h.spelled.unicode.0 h.attributes h.keywords h.values);
    transform = grind (arith, short_transform);
    private = λ s.
        few b.1 (rw (sym h.spelled.private.1 ∙ at code_x s) at h.private);
    other = λ o. absurd (none o);
  }
    where
      at : (q : ℕ) → lower_singleton b ≡ q → after q (tail_blocks (pieces t)) ≡ b.1
      at q s = ap (λ q. after q (tail_blocks (pieces t))) (sym s) ∙ own

      few : (ps : List Text) → length ps ≤ 4 → length (passing (is_word PrivateSubtag) ps) ≤ 4
      few ps k = omega (arith, k, passing_short (is_word PrivateSubtag) ps)

  all_blocks : (bs : List Block) →
      AllByRecursion (λ b. after (lower_singleton b) (tail_blocks (pieces t)) ≡ b.1) bs →
      AllByRecursion (λ b. is_other_singleton (lower_singleton b) ≡ true → ⊥) bs →
      AllByRecursion (IsShortBlock T) bs
  all_blocks [] own none = tt
  all_blocks (b ∷ bs) own none = (short_block b own.0 none.0, all_blocks bs own.1 none.1)

  identifier_few : (i : SpelledIdentifier) → IsIdentifier T i → head (pieces t) ≡ identifier_pieces i →
      length i.variants ≤ 4
  identifier_few i g e = grind (arith, one_identifier, few_variants)

pub inline_by_blocks : (T : LanguageLengths) → AreLengths T → (t : Text) → IsInline T t → IsInlineByBlocks T t
inline_by_blocks T table t h =
    let bs = tail_blocks (pieces t) in record {
      variants = identifier_few T table t h;
      short_blocks = all_blocks T table t h bs (each_after bs h.spelled.different)
          (no_other bs (h.spelled.others.1 ∙ h.no_others));
    }

-- no long block is reached where all are short
pub none_long : {T : ℕ → Bool} {bs : List Block} → ReachesLongBlock T bs →
    AllByRecursion (IsShortBlock T) bs → ⊥
none_long {T = T} (good, rest, c, ps, e, blocks, l, n, x) h =
    x (at good (rw e at h))
  where
    at : (good : List Block) → AllByRecursion (IsShortBlock T) (good ++ ((c, ps) ∷ rest)) →
        IsShortBlock T (c, ps)
    at [] h = h.0
    at (d ∷ ds) h = at ds h.1

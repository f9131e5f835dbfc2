-- Inline texts, by their blocks and by the trees that they spell; and a test that says which they are.
use Rattle.std.proofs.Common.{◌≡◌, ◌≤◌, ◌↔◌, ℕ, Bool, true, nat_le, List, [], ◌∷◌, ◌++◌, length, map, refl, sym, ap, ◌∙◌, subst, true≢false, arith, Result, Ok, Err, Option, Some, None, IfSome, option_map, option_to_list, append-nil}
use Rattle.std.specs.List.{AllByRecursion}
use Rattle.std.specs.Cmp.{nat_cmp_total}
use Rattle.std.specs.Ordering.{nat_cmp}
use Rattle.std.proofs.lemmas.Bool.{eqb-true, leb-true, le-leb, false_from_ne_true}
use Rattle.std.proofs.lemmas.List.{length-map}
use Rattle.iloc_spec_grammar.specs.Syntax.{LanguageLengths, Field, Block, code_x, code_u, Text, pieces, lower, SpelledIdentifier, SpelledUnicode, Fields, unicode_pieces, IsUnicode, kept, AllDifferent, AreLengths, head, tail_blocks, lower_singleton, IsPrivate}
use Rattle.iloc_spec_grammar.specs.Tree.{Extension, unicode, transform, other, Written, IsWritten, IsExtension, spelling, extension_pieces, extension_block, blocks_of, meaning}
use Rattle.iloc_spec_grammar.specs.Meaning.{Locale, SpelledExtensions, Extensions, Means, IdentifierMeans, SpellsExtensions, normal_identifier, normal_values, normal_fields, normal_extensions, after, Fault}
use Rattle.iloc_spec_grammar.specs.Reading.{written_of, fields_from, is_two}
use Rattle.iloc_spec_grammar.specs.Computing.{locale_result}
use Rattle.iloc_spec_grammar.proofs.RuleTests.{Tests, tests_and, tests_all, tests_if_some}
use Rattle.iloc_spec_grammar.proofs.ReadBack.{all_append}
use Rattle.iloc_spec_grammar.proofs.Readings.{written_of-spelling, blocks-spelling}
use Rattle.iloc_spec_grammar.proofs.ComputingLaws.{computed_means}
use Rattle.iloc_spec_grammar.proofs.SameMeaning.{tree_means, means_by_tree, none_after}
use Rattle.iloc_spec_grammar.proofs.Singletons.{no_u}
use Rattle.iloc_spec_parts.specs.Small.{SmallLocale, identifier_of_small, keyword_of_small, IsSmall}
use Rattle.iloc_spec_parts.specs.Inline.{IsInline}
use Rattle.iloc_spec_parts.specs.SmallComputing.{has_few_values, has_few_words, few_where_read, is_inline}
use Rattle.iloc_spec_parts.specs.Fronts.{after_attributes, keywords_front}
use Rattle.iloc_spec_parts.proofs.FrontLaws.{keywords_taken}
use Rattle.iloc_spec_parts.proofs.InlineBlockLaws.{each_after}
use Rattle.iloc_spec_parts.proofs.SmallShapes.{one_at_most, none_mapped, none_there, no_normal_fields}

-- what a text means has few words
pub record HasFewWords (M : Locale) : Type 0 where
  pub variants : length M.id.variants ≤ 4
  pub attributes : length M.extensions.unicode.attributes ≤ 4
  pub keywords : length M.extensions.unicode.keywords ≤ 1
  pub transform_variants : IfSome M.extensions.transform.id (λ i. length i.variants ≤ 4)
  pub no_fields : M.extensions.transform.fields ≡ []
  pub private : length M.extensions.private ≤ 4
  pub no_others : M.extensions.others ≡ []

-- at most four values besides `true` at each key
abbrev pub HaveFewValues : Fields → Type 0
HaveFewValues fs = AllByRecursion (λ f. length (normal_values f.1) ≤ 4) fs

mapped : (o : Option SpelledIdentifier) → IfSome o (λ i. length (normal_identifier i).variants ≤ 4) →
    IfSome (option_map normal_identifier o) (λ i. length i.variants ≤ 4)
mapped None h = tt
mapped (Some i) h = h

unmapped : (o : Option SpelledIdentifier) →
    IfSome (option_map normal_identifier o) (λ i. length i.variants ≤ 4) →
    IfSome o (λ i. length (normal_identifier i).variants ≤ 4)
unmapped None h = tt
unmapped (Some i) h = h

pub inline_has_few : {T : ℕ → Bool} (t : Text) (h : IsInline T t) →
    HasFewWords (record { id = h.id; extensions = normal_extensions h.extensions })
inline_has_few t h = search (mapped, length-map)

pub inline_of_few : {T : ℕ → Bool} (t : Text) (M : Locale) (e : SpelledExtensions) →
    IdentifierMeans T (head (pieces t)) M.id → SpellsExtensions T (tail_blocks (pieces t)) e →
    M.extensions ≡ normal_extensions e → HasFewWords M → HaveFewValues e.unicode.keywords → IsInline T t
inline_of_few t M e i s p h v = record {
  id = M.id;
  extensions = e;
  means = i;
  spelled = s;
  variants = h.variants;
  attributes = rw p at h.attributes;
  keywords = rw p at h.keywords;
  values = v;
  transform_variants = unmapped e.transform.id
      (rw p at h.transform_variants);
  no_fields =
      grind (arith, no_normal_fields);
  private = grind (arith, length-map);
  no_others = none_mapped (λ (o : Block). (o.0, kept o.1)) e.others
      (none_there nat_cmp nat_cmp_total _ (sym (ap (λ (n : Extensions). n.others) p) ∙ h.no_others));
}

-- a small text is inline

pub small_is_inline : {T : ℕ → Bool} (t : Text) (r : SmallLocale) → IsSmall T t r → IsInline T t
small_is_inline t r h = record {
  id = identifier_of_small r.id;
  extensions = h.written;
  means = h.id;
  spelled = h.spelled;
  variants = let l = one_at_most r.id.variant in omega arith;
  attributes = grind arith;
  keywords = grind (arith, one_at_most);
  values = few h.written.unicode.keywords h.one_keyword r.keyword
      (ap (λ (e : Extensions). e.unicode.keywords) h.means);
  transform_variants = grind (arith, unmapped);
  no_fields =
      grind (arith, no_normal_fields);
  private = rw (length-map h.written.private lower) at (subst
      (λ (e : Extensions). length e.private ≤ 4) h.means (omega arith));
  no_others = none_mapped (λ (o : Block). (o.0, kept o.1)) h.written.others
      (none_there nat_cmp nat_cmp_total _ (sym (ap (λ (e : Extensions). e.others) h.means)));
}
  where
    few : (fs : Fields) → length fs ≤ 1 → (o : Option (Text × Option Text)) →
        option_to_list (option_map keyword_of_small o) ≡ normal_fields fs → HaveFewValues fs
    few [] l o e = tt
    few (f ∷ []) l None e = absurd (cc)
    few (f ∷ []) l (Some q) e =
        let both : keyword_of_small q ≡ (lower f.0, normal_values f.1) = cc in
        let same = ap (λ (e : Field). length e.1) both in
        let one = one_at_most q.1 in
        (omega (arith, same, one), tt)
    few (f ∷ g ∷ fs) l o e = absurd (omega arith)

pub inline_means : {T : ℕ → Bool} (t : Text) → IsInline T t → (M : Locale) × Means T t M
inline_means t h = (
  record { id = h.id; extensions = normal_extensions h.extensions },
  record { id = h.means; extensions = (h.extensions, h.spelled, refl) },
)

-- by the tree that it spells

-- each keyword as it is written, a repeated one too, has at most four values besides `true`
abbrev pub HasFewValues : Extension → Type 0
HasFewValues (unicode u) = HaveFewValues u.keywords
HasFewValues _ = Unit {0}

-- The text is a locale with few words: no transform fields, no other extensions, one keyword at
-- most.
pub record IsTreeInline (T : LanguageLengths) (t : Text) : Type 0 where
  pub written : Written
  pub grammatical : IsWritten T written
  pub spelled : pieces t ≡ spelling written
  pub few : HasFewWords (meaning written)
  pub values : AllByRecursion (λ e. HasFewValues e.1) written.extensions

-- what stands after a singleton is nothing, or what stands after it in some block
after_holds : (P : List Text → Type 0) (q : ℕ) (bs : List Block) →
    AllDifferent nat_cmp (map (λ b. lower_singleton b) bs) → P [] →
    AllByRecursion (λ b. lower_singleton b ≡ q → P b.1) bs → P (after q bs)
after_holds P q [] d n h = n
after_holds P q (b ∷ bs) d n h = grind (
  arith,
  eqb-true,
  none_after,
  false_from_ne_true,
  append-nil,
  after_holds P q bs d.1 n h.1,
)

same_keywords : (u v : SpelledUnicode) → IsUnicode u → IsUnicode v → unicode_pieces u ≡ unicode_pieces v →
    v.keywords ≡ u.keywords
same_keywords u v g h e = sym (keywords_taken v [] h refl)
    ∙ ap (λ l. fields_from is_two (keywords_front (after_attributes (l ++ [])))) (sym e)
    ∙ keywords_taken u [] g refl

all_left : {X : Type 0} (P : X → Type 0) (xs ys : List X) → AllByRecursion P (xs ++ ys) → AllByRecursion P xs
all_left P [] ys h = tt
all_left P (x ∷ xs) ys h = (h.0, all_left P xs ys h.1)

all_mapped : {X Y : Type 0} (f : X → Y) (P : Y → Type 0) (xs : List X) → AllByRecursion (λ x. P (f x)) xs →
    AllByRecursion P (map f xs)
all_mapped f P [] h = tt
all_mapped f P (x ∷ xs) h = (h.0, all_mapped f P xs h.1)

all_unmapped : {X Y : Type 0} (f : X → Y) (P : Y → Type 0) (xs : List X) → AllByRecursion P (map f xs) →
    AllByRecursion (λ x. P (f x)) xs
all_unmapped f P [] h = tt
all_unmapped f P (x ∷ xs) h = (h.0, all_unmapped f P xs h.1)

-- the keywords of the parts that blocks spell, and those of the tree
module _ {T : ℕ → Bool} (w : Written) (g : IsWritten T w) (e : SpelledExtensions)
    (s : SpellsExtensions T (blocks_of w) e) where
  few_in_tree : HaveFewValues e.unicode.keywords → AllByRecursion (λ x. HasFewValues x.1) w.extensions
  few_in_tree h = each w.extensions g.extensions (search (all_unmapped, all_left, each_after))
    where
      at : (c : ℕ) (x : Extension) → IsExtension T (lower_singleton (c, x)) x →
          after (lower_singleton (c, x)) (blocks_of w) ≡ extension_pieces x → HasFewValues x
      at c (unicode u) k own = rw (same_keywords u e.unicode
          (record { attributes = k.1.attributes; keywords = k.1.keywords }) s.unicode.0
          (sym own ∙ ap (λ q. after q (blocks_of w)) k.0 ∙ s.unicode.1)) at h
      at c (transform m) k own = tt
      at c (other ps) k own = tt

      each : (es : List (ℕ × Extension)) → AllByRecursion (λ x. IsExtension T (lower_singleton x) x.1) es →
          AllByRecursion (λ x. after (lower_singleton x) (blocks_of w) ≡ extension_pieces x.1) es →
          AllByRecursion (λ x. HasFewValues x.1) es
      each [] k own = tt
      each (x ∷ es) k own = (at x.0 x.1 k.0 own.0, each es k.1 own.1)

  abbrev IsFewSpelled : List Text → Type 0
  IsFewSpelled ps = (u : SpelledUnicode) → IsUnicode u → ps ≡ unicode_pieces u → HaveFewValues u.keywords

  few_in_parts : AllByRecursion (λ x. HasFewValues x.1) w.extensions → HaveFewValues e.unicode.keywords
  few_in_parts h = after_holds IsFewSpelled code_u (blocks_of w) s.different none
      (all_append (λ b. lower_singleton b ≡ code_u → IsFewSpelled b.1) (map extension_block w.extensions)
      (option_to_list w.private)
      (all_mapped extension_block (λ b. lower_singleton b ≡ code_u → IsFewSpelled b.1) w.extensions
      (each w.extensions g.extensions h)) (of_private w.private g.private))
      e.unicode s.unicode.0 s.unicode.1
    where
      none : IsFewSpelled []
      none u g k = rw (same_keywords (record { attributes = []; keywords = [] }) u
          (record { attributes = tt; keywords = tt }) g k) tt

      at : (c : ℕ) (x : Extension) → IsExtension T (lower_singleton (c, x)) x → HasFewValues x →
          lower_singleton (c, x) ≡ code_u → IsFewSpelled (extension_pieces x)
      at c (unicode v) k few q = λ u g p. rw (same_keywords u v g
          (record { attributes = k.1.attributes; keywords = k.1.keywords }) (sym p)) at few
      at c (transform m) k few q = absurd (omega (arith, k.0, q))
      at c (other ps) k few q = absurd (no_u (lower_singleton (c, other ps)) q k.0)

      each : (es : List (ℕ × Extension)) → AllByRecursion (λ x. IsExtension T (lower_singleton x) x.1) es →
          AllByRecursion (λ x. HasFewValues x.1) es →
          AllByRecursion (λ x. lower_singleton x ≡ code_u → IsFewSpelled (extension_pieces x.1)) es
      each [] k few = tt
      each (x ∷ es) k few = (at x.0 x.1 k.0 few.0, each es k.1 few.1)

      of_private : (x : Option Block) →
          IfSome x (λ b. (lower_singleton b ≡ code_x) × IsPrivate b.1) →
          AllByRecursion (λ b. lower_singleton b ≡ code_u → IsFewSpelled b.1) (option_to_list x)
      of_private None k = tt
      of_private (Some b) k = ((λ q. absurd (omega (arith, k.0, q))), tt)

pub inline_is_tree : {T : ℕ → Bool} → AreLengths T → (t : Text) → IsInline T t → IsTreeInline T t
unfolding inline_means
inline_is_tree {T = T} table t h =
    let m = tree_means t (inline_means t h).0 (inline_means t h).1 in
    let bs : tail_blocks (pieces t) ≡ blocks_of m.written =
    grind (arith, blocks-spelling) in
    record {
      written = m.written;
      grammatical = m.grammatical;
      spelled = m.spelled;
      few = subst HasFewWords m.means (inline_has_few t h);
      values = grind (arith, few_in_tree);
    }

pub tree_is_inline : {T : ℕ → Bool} → AreLengths T → (t : Text) → IsTreeInline T t → IsInline T t
tree_is_inline {T = T} table t h =
    let m = means_by_tree table t (meaning h.written)
    (search) in
    let bs : tail_blocks (pieces t) ≡ blocks_of h.written =
    grind (arith, blocks-spelling) in
    inline_of_few t (meaning h.written) m.extensions.0 m.id m.extensions.1 m.extensions.2 h.few
    (grind (arith, few_in_parts))

-- the test of inline texts

tests_at_most : (n m : ℕ) → Tests (nat_le n m) (n ≤ m)
tests_at_most n m = record { holds = leb-true n m; passes = le-leb n m }

tests_empty : {X : Type 0} (xs : List X) → Tests (nat_le (length xs) 0) (xs ≡ [])
tests_empty [] = record { holds = λ e. refl; passes = λ e. refl }
tests_empty (x ∷ xs) = grind (arith, tests_at_most)

tests_values : (e : Extension) → Tests (has_few_values e) (HasFewValues e)
tests_values (unicode u) = search (tests_all, tests_at_most)
tests_values _ = record { holds = λ e. tt; passes = λ h. refl }

-- what is tested is few
abbrev AreFew : Written → Locale → Type 0
AreFew w M = (((length M.id.variants ≤ 4) × (length M.extensions.unicode.attributes ≤ 4))
    × ((length M.extensions.unicode.keywords ≤ 1) × AllByRecursion (λ e. HasFewValues e.1) w.extensions))
    × ((IfSome M.extensions.transform.id (λ i. length i.variants ≤ 4) × (M.extensions.transform.fields ≡ []))
    × ((length M.extensions.private ≤ 4) × (M.extensions.others ≡ [])))

tests_few : (w : Written) (M : Locale) → Tests (has_few_words w M) (AreFew w M)
tests_few w M = search (tests_and, tests_at_most, tests_all, tests_values, tests_if_some, tests_empty)

tree_passes : {T : ℕ → Bool} → AreLengths T → (t : Text) → IsTreeInline T t → is_inline T t ≡ true
unfolding is_inline
tree_passes {T = T} table t h =
    let few = h.few in
    let e : locale_result T t ≡ Ok (meaning h.written) =
    (computed_means T table t (meaning h.written)).1 (search means_by_tree) in
    let w : written_of (pieces t) ≡ h.written =
    grind (arith, written_of-spelling) in
    (λ i. few_where_read (w i) (e i))
    ∙ (tests_few h.written (meaning h.written)).passes (search)

few_is_tree : {T : ℕ → Bool} → AreLengths T → (t : Text) (r : Result Locale Fault) → locale_result T t ≡ r →
    few_where_read (written_of (pieces t)) r ≡ true → IsTreeInline T t
few_is_tree table t (Err f) e h = absurd (true≢false (sym h))
few_is_tree {T = T} table t (Ok M) e h =
    let m = tree_means t M ((computed_means T table t M).0 e) in
    let w : written_of (pieces t) ≡ m.written =
    grind (arith, written_of-spelling) in
    let few =
    (tests_few m.written (meaning m.written)).holds ((λ i. has_few_words (sym w i) (sym m.means i)) ∙ h) in
    search

pub inline_answer : (T : LanguageLengths) → AreLengths T → (t : Text) → (is_inline T t ≡ true) ↔ IsInline T t
unfolding is_inline
inline_answer T table t = search (tree_is_inline, few_is_tree, tree_passes, inline_is_tree)

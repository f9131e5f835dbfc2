-- A keyword of which nothing but the words of its variants is read.
use Rattle.std.proofs.Common.{◌≡◌, ℕ, zero, suc, ◌+◌, ◌<◌, Bool, true, false, cond, ◌&&◌, List, [], ◌∷◌, ◌++◌, map, refl, sym, ap, ◌∙◌, arith, append-nil, subst, Option, Some, None, option_map, option_and_then, slice_get, codes}
use Rattle.std.specs.Option.{ok_or, option_cmp}
use Rattle.std.specs.List.{list_all, AllByRecursion}
use Rattle.std.specs.FinMap.{find}
use Rattle.std.specs.Ordering.{nat_cmp, is_eq, ordering_then}
use Rattle.std.specs.declared.cmp.Ordering.{Ordering}
use Rattle.std.specs.declared.cmp.Ordering.TheVariants.{Less, Equal, Greater}
use Rattle.std.specs.Cmp.{nat_cmp_is}
use Rattle.std.specs.Cmp.Lexicographic.{slice_cmp}
use Rattle.std.proofs.lemmas.Bool.{and_parts}
use Rattle.iloc_spec_grammar.specs.Syntax.{Text, Subtag, word_cmp, is_word, lower, is_same, is_true}
use Rattle.iloc_spec_grammar.specs.Values.{IsNormal, spelled_value}
use Rattle.iloc_spec_parts.specs.Orders.{pair_cmp}
use Rattle.iloc_word_list.specs.Values as values
use Rattle.iloc_spec_parts.specs.SingleValues.{single}
use Rattle.iloc_spec_parts.specs.Keywords.{EnumKeyword, CalendarAlgorithm, CollationType, CollationCaseFirst, CollationNumericOrdering, CurrencyFormatStyle, EmojiPresentationStyle, FirstDay, HourCycle, LineBreakStyle, LineBreakWordHandling, MeasurementSystem, MeasurementUnitOverride, SentenceBreakSupressions, CommonVariantType, EnumValue, numbered, variants, further_readings, readings, unspelled_value, enum_reads, enum_words, enum_gives}
use Rattle.iloc_spec_parts.proofs.KeywordLaws.{reads_what_it_gives}
use Rattle.iloc_word_list.specs.declared.errors.PreferencesParseError.TheVariants.{InvalidKeywordValue}
use Rattle.iloc_keyword_types.specs.WordTables.{table_place, word_at}
use Rattle.iloc_keyword_types.specs.Reads.{Reads}
use Rattle.iloc_spec_grammar.proofs.MapLaws.{same_is}

-- the value of a variant without a kind
abbrev pub variant : ℕ → EnumValue
variant n = (n, None)

abbrev pub entry : Text × ℕ → List Text × EnumValue
entry e = (e.0 ∷ [], (e.1, None))

-- Reading.

pub one_word : (w : Text) (es : List (Text × ℕ)) →
    find (slice_cmp word_cmp) (w ∷ []) (map entry es) ≡ option_map variant (find word_cmp w es)
one_word w [] = refl
one_word w (e ∷ es) = elim (word_cmp w e.0) as (λ r. cond (is_eq (ordering_then r Equal)) (Some (variant e.1))
    (find (slice_cmp word_cmp) (w ∷ []) (map entry es))
    ≡ option_map variant (cond (is_eq r) (Some e.1) (find word_cmp w es))) [
      | Less ↦ one_word w es
      | Equal ↦ refl
      | Greater ↦ one_word w es
    ]

pub more_words : (v w : Text) (ws : List Text) (es : List (Text × ℕ)) →
    find (slice_cmp word_cmp) (v ∷ w ∷ ws) (map entry es) ≡ None
more_words v w ws [] = refl
more_words v w ws (e ∷ es) = elim (word_cmp v e.0) as (λ r. cond (is_eq (ordering_then r Greater))
    (Some (variant e.1)) (find (slice_cmp word_cmp) (v ∷ w ∷ ws) (map entry es))
    ≡ None) [
      | Less ↦ more_words v w ws es
      | Equal ↦ more_words v w ws es
      | Greater ↦ more_words v w ws es
    ]

-- what the words read as: the variant of the only word
by_word : (ws vs : List Text) →
    find (slice_cmp word_cmp) (spelled_value ws) (map entry (numbered 0 vs))
    ≡ option_and_then (λ w. option_map variant (table_place w vs)) (single (spelled_value ws))
unfolding table_place
by_word [] vs = one_word (codes "true") (numbered 0 vs)
by_word (w ∷ []) vs = one_word w (numbered 0 vs)
by_word (v ∷ w ∷ ws) vs = more_words v w ws (numbered 0 vs)

all_readings : (k : EnumKeyword) → further_readings k ≡ [] → readings k ≡ map entry (numbered 0 (variants k))
all_readings k plain = ap (λ r. map entry (numbered 0 (variants k)) ++ r) plain
    ∙ append-nil (map entry (numbered 0 (variants k)))

pub read_by_word : (k : EnumKeyword) (vs : List Text) → vs ≡ variants k → further_readings k ≡ [] →
    (ws : List Text) →
    enum_reads k ws ≡ option_and_then (λ w. option_map variant (table_place w vs)) (single (spelled_value ws))
read_by_word k vs same plain ws = ap (find (slice_cmp word_cmp) (spelled_value ws))
    (all_readings k plain ∙ ap (λ vs. map entry (numbered 0 vs)) (sym same))
    ∙ by_word ws vs

module _ {X : Type 0} (place : X → ℕ) where
  pub answered : (r : Option X) (o : Option EnumValue) → o ≡ option_map variant (option_map place r) →
      Reads (λ x. variant (place x)) o (ok_or r InvalidKeywordValue)
  answered None o h = h
  answered (Some x) o h = h

-- Writing.

pair_is : (a b : ℕ) (r : Ordering) → nat_cmp a b ≡ r →
    is_eq (pair_cmp nat_cmp (option_cmp nat_cmp) (variant a) (variant b)) ≡ is_eq (ordering_then r Equal)
pair_is a b r e = ap (λ r. is_eq (ordering_then r Equal)) e

words_at : (m n i : ℕ) (ws : List Text) → m + n ≡ i →
    find (pair_cmp nat_cmp (option_cmp nat_cmp)) (variant i)
    (map (λ e. (e.1, e.0)) (map entry (numbered m ws)))
    ≡ option_map (λ w. w ∷ []) (slice_get ws n)
words_at m n i [] h = refl
words_at m zero i (w ∷ ws) h = ap (λ b. cond b (Some (w ∷ [])) (find (pair_cmp nat_cmp (option_cmp nat_cmp))
    (variant i) (map (λ e. (e.1, e.0)) (map entry (numbered (m + 1) ws)))))
    (pair_is i m Equal (let e : i ≡ m = omega (arith, h) in sym (nat_cmp_is i m Equal e)))
words_at m (suc n) i (w ∷ ws) h =
    ap (λ b. cond b (Some (w ∷ [])) (find (pair_cmp nat_cmp (option_cmp nat_cmp)) (variant i)
    (map (λ e. (e.1, e.0)) (map entry (numbered (m + 1) ws)))))
    (pair_is i m Greater (let e : m < i = omega (arith, h) in sym (nat_cmp_is i m Greater e)))
    ∙ words_at (m + 1) n i ws (omega (arith, h))

pub word_of_place : (k : EnumKeyword) (vs : List Text) → vs ≡ variants k → further_readings k ≡ [] →
    (n : ℕ) → enum_words k (variant n) ≡ option_map (λ w. w ∷ []) (slice_get vs n)
word_of_place k vs same plain n =
    ap (λ r. find (pair_cmp nat_cmp (option_cmp nat_cmp)) (variant n) (map (λ e. (e.1, e.0)) r))
    (all_readings k plain ∙ ap (λ vs. map entry (numbered 0 vs)) (sym same))
    ∙ words_at 0 n n vs (omega arith)

-- `true` alone is written as nothing
pub same_without : (w : Text) → values.without_true (w ∷ []) ≡ unspelled_value (w ∷ [])
same_without w =
    elim (is_true w) as (λ b. is_true w ≡ b → values.without_true (w ∷ []) ≡ unspelled_value (w ∷ []))
    [ true ↦ λ e. rw e refl | false ↦ λ e. rw e refl ] refl

pub given : (k : EnumKeyword) (vs : List Text) → vs ≡ variants k → further_readings k ≡ [] → (n : ℕ) →
    slice_get vs n ≡ Some (word_at vs n) → (v : List Text) → v ≡ values.without_true (word_at vs n ∷ []) →
    enum_gives k (variant n) ≡ Some v
given k vs same plain n at v is =
    ap (option_map unspelled_value) (word_of_place k vs same plain n ∙ ap (option_map (λ w. w ∷ [])) at)
    ∙ ap Some (sym (is ∙ same_without (word_at vs n)))

-- and is read back
all_back : (P : EnumValue → Type 0) (m n i : ℕ) (ws : List Text) (w : Text) → m + n ≡ i →
    AllByRecursion (λ e. P e.1) (map entry (numbered m ws)) → slice_get ws n ≡ Some w → P (variant i)
all_back P m n i [] w h a at = absurd (cc)
all_back P m zero i (x ∷ ws) w h a at = let e : m ≡ i = omega (arith, h) in rw (sym e) a.0
all_back P m (suc n) i (x ∷ ws) w h a at = all_back P (m + 1) n i ws w (omega (arith, h)) a.1 at

pub read_back : (k : EnumKeyword) (vs : List Text) → vs ≡ variants k → further_readings k ≡ [] →
    (n : ℕ) (w : Text) → slice_get vs n ≡ Some w → (v : List Text) → enum_gives k (variant n) ≡ Some v →
    enum_reads k v ≡ Some (variant n)
read_back k vs same plain n w at v is =
    let P : EnumValue → Type 0 = λ x. option_and_then (enum_reads k) (enum_gives k x) ≡ Some x in
    let h : P (variant n) = all_back P 0 n n (variants k) w (omega arith)
    (subst (AllByRecursion (λ e. P e.1)) (all_readings k plain) (reads_what_it_gives k))
    (ap (λ vs. slice_get vs n) (sym same) ∙ at) in
    sym (ap (option_and_then (enum_reads k)) is) ∙ h

-- Each word of a table is a subtag in its normal case.

abbrev is_normal_subtag : Text → Bool
is_normal_subtag w = is_word Subtag w && is_same (lower w) w

all_normal : (k : EnumKeyword) → list_all is_normal_subtag (variants k) ≡ true
unfolding is_word lower
all_normal CalendarAlgorithm = refl
all_normal CollationType = refl
all_normal CollationCaseFirst = refl
all_normal CollationNumericOrdering = refl
all_normal CurrencyFormatStyle = refl
all_normal EmojiPresentationStyle = refl
all_normal FirstDay = refl
all_normal HourCycle = refl
all_normal LineBreakStyle = refl
all_normal LineBreakWordHandling = refl
all_normal MeasurementSystem = refl
all_normal MeasurementUnitOverride = refl
all_normal SentenceBreakSupressions = refl
all_normal CommonVariantType = refl

pub at_normal : (ws : List Text) (n : ℕ) (w : Text) → list_all is_normal_subtag ws ≡ true →
    slice_get ws n ≡ Some w → IsNormal Subtag w
at_normal [] n w h at = absurd (cc)
at_normal (x ∷ ws) zero w h at =
    let e : x ≡ w = cc in
    let p = and_parts (is_word Subtag x) (is_same (lower x) x) (and_parts _ _ h).0 in
    rw (sym e) (p.0, same_is (lower x) x p.1)
at_normal (x ∷ ws) (suc n) w h at = at_normal ws n w (and_parts (is_normal_subtag x) _ h).1 at

pub normal_word : (k : EnumKeyword) (vs : List Text) → vs ≡ variants k → (n : ℕ) (w : Text) →
    slice_get vs n ≡ Some w → IsNormal Subtag w
normal_word k vs same n w at = at_normal vs n w (ap (list_all is_normal_subtag) same ∙ all_normal k) at

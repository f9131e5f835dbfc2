-- What one, two or three words read as, as a calendar.
use Rattle.std.proofs.Common.{◌≡◌, ℕ, Bool, true, false, cond, ◌&&◌, List, [], ◌∷◌, ◌++◌, map, refl, sym, ap, ◌∙◌, Option, Some, None, option_map, codes, nat_eq, ◌<◌, ◌≤◌, length, arith}
use Rattle.std.specs.Option.{option_or}
use Rattle.std.specs.FinMap.{find}
use Rattle.std.specs.Ordering.{is_eq, ordering_then, eq_by_cmp}
use Rattle.std.specs.declared.cmp.Ordering.{Ordering}
use Rattle.std.specs.declared.cmp.Ordering.TheVariants.{Less, Equal, Greater}
use Rattle.std.specs.Cmp.Lexicographic.{slice_cmp, pointwise, texts_ties}
use Rattle.iloc_spec_grammar.specs.Syntax.{Text, word_cmp, is_same}
use Rattle.iloc_spec_parts.specs.Keywords as keywords
use Rattle.iloc_spec_parts.specs.Keywords.{EnumValue, numbered, variants, further_readings, readings, hijri_kinds}
use Rattle.iloc_keyword_types.specs.WordTables.{table_place}
use Rattle.iloc_keyword_types.proofs.EnumLemmas.{variant, one_word, more_words, entry}
use Rattle.iloc_keyword_types.specs.CalendarReading.{calendar_reads}
use Rattle.iloc_spec_grammar.proofs.MapLaws.{same_is}

abbrev cs : List Text
cs = variants keywords.CalendarAlgorithm

abbrev W : List Text → List Text → Ordering
W = slice_cmp word_cmp

find_either : (q : List Text) (xs ys : List (List Text × EnumValue)) →
    find W q (xs ++ ys) ≡ option_or (find W q xs) (find W q ys)
find_either q [] ys = refl
find_either q (x ∷ xs) ys = elim (eq_by_cmp W q x.0)
    as (λ b.
    cond b (Some x.1) (find W q (xs ++ ys)) ≡ option_or (cond b (Some x.1) (find W q xs)) (find W q ys))
    [ true ↦ refl | false ↦ find_either q xs ys ]

first_less : (r : Ordering) → is_eq (ordering_then r Less) ≡ false
first_less Less = refl
first_less Equal = refl
first_less Greater = refl

first_greater : (r : Ordering) → is_eq (ordering_then r Greater) ≡ false
first_greater Less = refl
first_greater Equal = refl
first_greater Greater = refl

first_equal : (r : Ordering) → is_eq (ordering_then r Equal) ≡ is_eq r
first_equal Less = refl
first_equal Equal = refl
first_equal Greater = refl

then_less : (r s : Ordering) → is_eq (ordering_then r (ordering_then s Less)) ≡ false
then_less Less s = refl
then_less Equal s = first_less s
then_less Greater s = refl

then_greater : (r s : Ordering) → is_eq (ordering_then r (ordering_then s Greater)) ≡ false
then_greater Less s = refl
then_greater Equal s = first_greater s
then_greater Greater s = refl

abbrev kind_entry : Text × ℕ → List Text × EnumValue
kind_entry e = (codes "islamic" ∷ e.0 ∷ [], (9, Some e.1))

abbrev short_form : List Text × EnumValue
short_form = (codes "islamicc" ∷ [], (9, Some 2))

abbrev long_form : List Text × EnumValue
long_form = (codes "ethiopic" ∷ codes "amete" ∷ codes "alem" ∷ [], (4, None))

abbrev old_forms : List (List Text × EnumValue)
old_forms = short_form ∷ long_form ∷ []

pass : (q : List Text) (e : List Text × EnumValue) (es : List (List Text × EnumValue)) →
    eq_by_cmp W q e.0 ≡ false → find W q (e ∷ es) ≡ find W q es
pass q e es h = ap (λ b. cond b (Some e.1) (find W q es)) h

-- one word

not_kinds : (w : Text) (es : List (Text × ℕ)) → find W (w ∷ []) (map kind_entry es) ≡ None
not_kinds w [] = refl
not_kinds w (e ∷ es) =
    pass (w ∷ []) (kind_entry e) (map kind_entry es) (first_less (word_cmp w (codes "islamic")))
    ∙ not_kinds w es

of_old : (w : Text) →
    find W (w ∷ []) old_forms ≡ cond (is_same w (codes "islamicc")) (Some (9, Some 2)) None
of_old w =
    ap (λ o. cond (is_eq (ordering_then (word_cmp w (codes "islamicc")) Equal)) (Some (9, Some 2)) o)
    (pass (w ∷ []) long_form [] (first_less (word_cmp w (codes "ethiopic"))))
    ∙ ap (λ b. cond b (Some (9, Some 2)) None) (first_equal (word_cmp w (codes "islamicc")))

one : (w : Text) →
    find W (w ∷ []) (readings keywords.CalendarAlgorithm)
    ≡ option_or (option_map variant (find word_cmp w (numbered 0 cs)))
    (cond (is_same w (codes "islamicc")) (Some (9, Some 2)) None)
one w =
    find_either (w ∷ []) (map entry (numbered 0 cs)) (further_readings keywords.CalendarAlgorithm)
    ∙ (λ i. option_or (one_word w (numbered 0 cs) i)
    (find_either (w ∷ []) (map kind_entry (numbered 0 hijri_kinds)) old_forms i))
    ∙ ap (λ o. option_or (option_map variant (find word_cmp w (numbered 0 cs)))
    (option_or o (find W (w ∷ []) old_forms))) (not_kinds w (numbered 0 hijri_kinds))
    ∙ ap (option_or (option_map variant (find word_cmp w (numbered 0 cs)))) (of_old w)

or_none : (o : Option EnumValue) → option_or o None ≡ o
or_none None = refl
or_none (Some x) = refl

pub old_form : (w : Text) → pointwise nat_eq w (codes "islamicc") ≡ true →
    calendar_reads (w ∷ []) ≡ Some (9, Some 2)
unfolding calendar_reads
old_form w h = rw (same_is w (codes "islamicc") (sym (texts_ties w (codes "islamicc")) ∙ h)) refl

pub plain_form : (w : Text) → pointwise nat_eq w (codes "islamicc") ≡ false →
    calendar_reads (w ∷ []) ≡ option_map variant (table_place w cs)
unfolding calendar_reads table_place
plain_form w h = one w
    ∙ ap
    (λ b. option_or (option_map variant (find word_cmp w (numbered 0 cs))) (cond b (Some (9, Some 2)) None))
    (sym (texts_ties w (codes "islamicc")) ∙ h)
    ∙ or_none (option_map variant (find word_cmp w (numbered 0 cs)))

-- two words

abbrev pub of_kind : ℕ → EnumValue
of_kind n = (9, Some n)

both_none : (b : Bool) → ◌≡◌ {A = Option EnumValue} (cond b None None) None
both_none true = refl
both_none false = refl

kinds : (v w : Text) (r : Ordering) → word_cmp v (codes "islamic") ≡ r → (es : List (Text × ℕ)) →
    find W (v ∷ w ∷ []) (map kind_entry es) ≡ cond (is_eq r) (option_map of_kind (find word_cmp w es)) None
kinds v w r h [] = sym (both_none (is_eq r))
kinds v w Less h (e ∷ es) = pass (v ∷ w ∷ []) (kind_entry e) (map kind_entry es)
    (ap (λ r. is_eq (ordering_then r (ordering_then (word_cmp w e.0) Equal))) h)
    ∙ kinds v w Less h es
kinds v w Greater h (e ∷ es) = pass (v ∷ w ∷ []) (kind_entry e) (map kind_entry es)
    (ap (λ r. is_eq (ordering_then r (ordering_then (word_cmp w e.0) Equal))) h)
    ∙ kinds v w Greater h es
kinds v w Equal h (e ∷ es) =
    ap (λ b. cond b (Some (9, Some e.1)) (find W (v ∷ w ∷ []) (map kind_entry es)))
    (ap (λ r. is_eq (ordering_then r (ordering_then (word_cmp w e.0) Equal))) h
    ∙ first_equal (word_cmp w e.0))
    ∙ ap (λ o. cond (is_eq (word_cmp w e.0)) (Some (9, Some e.1)) o) (kinds v w Equal h es)
    ∙ (elim (is_eq (word_cmp w e.0))
    as (λ b. cond b (Some (9, Some e.1)) (option_map of_kind (find word_cmp w es))
    ≡ option_map of_kind (cond b (Some e.1) (find word_cmp w es))) [ true ↦ refl | false ↦ refl ])

two : (v w : Text) →
    find W (v ∷ w ∷ []) (readings keywords.CalendarAlgorithm)
    ≡ cond (is_same v (codes "islamic")) (option_map of_kind (find word_cmp w (numbered 0 hijri_kinds))) None
two v w =
    find_either (v ∷ w ∷ []) (map entry (numbered 0 cs)) (further_readings keywords.CalendarAlgorithm)
    ∙ ap (λ o. option_or o (find W (v ∷ w ∷ []) (further_readings keywords.CalendarAlgorithm)))
    (more_words v w [] (numbered 0 cs))
    ∙ find_either (v ∷ w ∷ []) (map kind_entry (numbered 0 hijri_kinds)) old_forms
    ∙ ap (λ o. option_or (find W (v ∷ w ∷ []) (map kind_entry (numbered 0 hijri_kinds))) o)
    (pass (v ∷ w ∷ []) short_form (long_form ∷ []) (first_greater (word_cmp v (codes "islamicc")))
    ∙ pass (v ∷ w ∷ []) long_form [] (then_less (word_cmp v (codes "ethiopic")) (word_cmp w (codes "amete"))))
    ∙ or_none (find W (v ∷ w ∷ []) (map kind_entry (numbered 0 hijri_kinds)))
    ∙ kinds v w (word_cmp v (codes "islamic")) refl (numbered 0 hijri_kinds)

pub no_kind : (v w : Text) → pointwise nat_eq v (codes "islamic") ≡ false →
    calendar_reads (v ∷ w ∷ []) ≡ None
unfolding calendar_reads
no_kind v w h = two v w
    ∙ ap (λ b. cond b (option_map of_kind (find word_cmp w (numbered 0 hijri_kinds))) None)
    (sym (texts_ties v (codes "islamic")) ∙ h)

pub with_kind : (v w : Text) → pointwise nat_eq v (codes "islamic") ≡ true →
    calendar_reads (v ∷ w ∷ []) ≡ option_map of_kind (table_place w hijri_kinds)
unfolding calendar_reads table_place
with_kind v w h = two v w
    ∙ ap (λ b. cond b (option_map of_kind (find word_cmp w (numbered 0 hijri_kinds))) None)
    (sym (texts_ties v (codes "islamic")) ∙ h)

-- three words, and more

no_kinds : (u v w : Text) (ws : List Text) (es : List (Text × ℕ)) →
    find W (u ∷ v ∷ w ∷ ws) (map kind_entry es) ≡ None
no_kinds u v w ws [] = refl
no_kinds u v w ws (e ∷ es) = pass (u ∷ v ∷ w ∷ ws) (kind_entry e) (map kind_entry es)
    (then_greater (word_cmp u (codes "islamic")) (word_cmp v e.0))
    ∙ no_kinds u v w ws es

three : (u v w : Text) (ws : List Text) →
    find W (u ∷ v ∷ w ∷ ws) (readings keywords.CalendarAlgorithm)
    ≡ cond (is_eq (W (u ∷ v ∷ w ∷ ws) (codes "ethiopic" ∷ codes "amete" ∷ codes "alem" ∷ [])))
    (Some (4, None)) None
three u v w ws =
    find_either (u ∷ v ∷ w ∷ ws) (map entry (numbered 0 cs)) (further_readings keywords.CalendarAlgorithm)
    ∙ ap (λ o. option_or o (find W (u ∷ v ∷ w ∷ ws) (further_readings keywords.CalendarAlgorithm)))
    (more_words u v (w ∷ ws) (numbered 0 cs))
    ∙ find_either (u ∷ v ∷ w ∷ ws) (map kind_entry (numbered 0 hijri_kinds)) old_forms
    ∙ ap (λ o. option_or o (find W (u ∷ v ∷ w ∷ ws) old_forms)) (no_kinds u v w ws (numbered 0 hijri_kinds))
    ∙ pass (u ∷ v ∷ w ∷ ws) short_form (long_form ∷ []) (first_greater (word_cmp u (codes "islamicc")))

all_equal : (r s t : Ordering) →
    is_eq (ordering_then r (ordering_then s (ordering_then t Equal))) ≡ is_eq r && (is_eq s && is_eq t)
all_equal Less s t = refl
all_equal Equal Less t = refl
all_equal Equal Equal t = first_equal t
all_equal Equal Greater t = refl
all_equal Greater s t = refl

abbrev pub ethioaa_where : Bool → Bool → Bool → Option EnumValue
ethioaa_where a b d = cond (a && (b && d)) (Some (4, None)) None

pub three_words : (u v w : Text) →
    calendar_reads (u ∷ v ∷ w ∷ [])
    ≡ ethioaa_where (pointwise nat_eq u (codes "ethiopic")) (pointwise nat_eq v (codes "amete"))
    (pointwise nat_eq w (codes "alem"))
unfolding calendar_reads
three_words u v w = three u v w []
    ∙ ap (λ b. cond b (Some (4, None)) None)
    (all_equal (word_cmp u (codes "ethiopic")) (word_cmp v (codes "amete")) (word_cmp w (codes "alem"))
    ∙ (λ i. sym (texts_ties u (codes "ethiopic")) i
    && (sym (texts_ties v (codes "amete")) i && sym (texts_ties w (codes "alem")) i)))

then_then_greater : (r s t : Ordering) →
    is_eq (ordering_then r (ordering_then s (ordering_then t Greater))) ≡ false
then_then_greater Less s t = refl
then_then_greater Equal s t = then_greater s t
then_then_greater Greater s t = refl

four_words : (t u v w : Text) (ws : List Text) → calendar_reads (t ∷ u ∷ v ∷ w ∷ ws) ≡ None
unfolding calendar_reads
four_words t u v w ws = three t u v (w ∷ ws)
    ∙ ap (λ b. cond b (Some (4, None)) None) (then_then_greater (word_cmp t (codes "ethiopic"))
    (word_cmp u (codes "amete")) (word_cmp v (codes "alem")))

no_words : calendar_reads [] ≡ None
unfolding calendar_reads
no_words = refl

pub below_one : (ws : List Text) → length ws < 1 → None ≡ calendar_reads ws
below_one [] h = sym no_words
below_one (w ∷ ws) h = absurd (omega (arith, h))

pub from_four : (ws : List Text) → 4 ≤ length ws → None ≡ calendar_reads ws
from_four [] h = absurd (omega (arith, h))
from_four (t ∷ []) h = absurd (omega (arith, h))
from_four (t ∷ u ∷ []) h = absurd (omega (arith, h))
from_four (t ∷ u ∷ v ∷ []) h = absurd (omega (arith, h))
from_four (t ∷ u ∷ v ∷ w ∷ ws) h = sym (four_words t u v w ws)

-- How long the text of a data locale is: at most by a region and its hyphen longer than a text that means it.
use Rattle.std.proofs.Common.{◌≡◌, ℕ, ◌+◌, ◌≤◌, Bool, true, false, cond, List, [], ◌∷◌, ◌++◌, length, Option, Some, None, IfSome, Result, Ok, Err, option_map, option_and_then, option_to_list, codes, refl, sym, ap, ◌∙◌, subst, arith, append-nil, append_assoc, length-append}
use Rattle.std.specs.Result.{result_ok}
use Rattle.std.proofs.lemmas.Bool.{cond_both}
use Rattle.std.proofs.lemmas.Bool.Decides.{nat_tests}
use Rattle.iloc_spec_grammar.specs.Syntax.{Text, join, dashes, Region, languages, is_word, is_same, is_true, lower}
use Rattle.iloc_spec_grammar.specs.Values.{IsNormal, text, extensions_spelling}
use Rattle.iloc_spec_grammar.proofs.AnySteps.{shortest}
use Rattle.iloc_spec_grammar.proofs.MapLaws.{same_is}
use Rattle.iloc_spec_grammar.proofs.PartTexts.{join-dashes, dashes-append}
use Rattle.iloc_spec_grammar.proofs.WordsLaws.{length-lower}
use Rattle.iloc_spec_parts.specs.Small.{SmallIdentifier, SmallLocale, locale_of_small}
use Rattle.iloc_spec_parts.proofs.SmallLaws.{small_means}
use Rattle.iloc_spec_parts.proofs.SmallBack.{read_is_small_value}
use Rattle.iloc_spec_parts.specs.Subdivisions.{Subdivision, subdivision, subdivision_text}
use Rattle.iloc_spec_parts.proofs.Keys.{sd}
use Rattle.iloc_spec_parts.specs.DataLocales.{DataLocale, DataMeans, whole_region, is_whole, named_subdivision, made_of, agreed, small_part, subdivision_value, subdivision_pieces, data_text}
use Rattle.iloc_spec_parts.proofs.SubdivisionLaws.{subdivision_back, read_is_subdivision, text_of_read}
use Rattle.iloc_spec_parts.proofs.DataLaws.{whole_region_is}

-- the bytes that a word takes with its hyphen, and those of a keyword after `u`
abbrev share : Option Text → ℕ
share None = 0
share (Some w) = 1 + length w

abbrev keyword_share : Option (Text × Option Text) → ℕ
keyword_share None = 0
keyword_share (Some k) = 2 + (1 + length k.0) + share k.1

dashes_share : (o : Option Text) → length (dashes (option_to_list o)) ≡ share o
dashes_share None = refl
dashes_share (Some w) = let e : length (w ++ []) ≡ length w = ap length (append-nil w) in omega (arith, e)

-- the length of four words and what follows them
length_of_words : (l : Text) (s r v : Option Text) (rest : List Text)
    → length (join (l ∷ (option_to_list s ++ (option_to_list r ++ (option_to_list v ++ rest)))))
    ≡ length l + share s + share r + share v + length (dashes rest)
length_of_words l s r v rest =
    let a = dashes_share s in let b = dashes_share r in let c = dashes_share v in
    let e : length (join (l ∷ (option_to_list s ++ (option_to_list r ++ (option_to_list v ++ rest)))))
    ≡ length l
    + (length (dashes (option_to_list s))
    + (length (dashes (option_to_list r)) + (length (dashes (option_to_list v)) + length (dashes rest)))) =
    simp (join-dashes, dashes-append, length-append) in
    omega (arith, a, b, c, e)

-- the pieces of a keyword after `u`
abbrev keyword_pieces : Option (Text × Option Text) → List Text
keyword_pieces None = []
keyword_pieces (Some k) = codes "u" ∷ k.0 ∷ option_to_list k.1

keyword_length : (k : Option (Text × Option Text)) → length (dashes (keyword_pieces k)) ≡ keyword_share k
keyword_length None = refl
keyword_length (Some k) =
    omega (arith, length-append k.0 (dashes (option_to_list k.1)), dashes_share k.1)

-- a small locale's text, and its length
small_text : (i : SmallIdentifier) (k : Option (Text × Option Text))
    → text (locale_of_small (record { id = i; keyword = k }))
    ≡ join (i.language ∷ (option_to_list i.script ++ (option_to_list i.region
    ++ (option_to_list i.variant ++ keyword_pieces k))))
unfolding extensions_spelling
small_text i None = simp (append_assoc, append-nil)
small_text i (Some k) =
    let e : join (i.language ∷ ((option_to_list i.script
    ++ (option_to_list i.region ++ option_to_list i.variant))
    ++ (codes "u" ∷ k.0 ∷ ((option_to_list k.1 ++ []) ++ []))))
    ≡ join (i.language ∷ (option_to_list i.script ++ (option_to_list i.region
    ++ (option_to_list i.variant ++ keyword_pieces (Some k))))) = simp (append_assoc, append-nil) in e

length_of_small : (i : SmallIdentifier) (k : Option (Text × Option Text))
    → length (text (locale_of_small (record { id = i; keyword = k })))
    ≡ length i.language + share i.script + share i.region + share i.variant + keyword_share k
length_of_small i k = ap length (small_text i k)
    ∙ length_of_words i.language i.script i.region i.variant (keyword_pieces k)
    ∙ ap (λ n. length i.language + share i.script + share i.region + share i.variant + n) (keyword_length k)

-- what a keyword's value takes when it is printed
value_share : (w : Text) → length (dashes (codes "u" ∷ sd ∷ subdivision_value w)) ≤ 6 + length w
value_share w = cond_both (is_true (lower w)) [] (lower w ∷ [])
    (λ ws. length (dashes (codes "u" ∷ sd ∷ ws)) ≤ 6 + length w)
    (λ e. let n : length (dashes (codes "u" ∷ sd ∷ [])) ≡ 5 = refl in omega (arith, n))
    (λ e. let m = length-lower w in
    let n : length (dashes (codes "u" ∷ sd ∷ (lower w ∷ []))) ≡ 6 + length (lower w) =
    (let e : length (lower w ++ []) ≡ length (lower w) = ap length (append-nil (lower w)) in
    omega (arith, e)) in
    omega (arith, m, n))

abbrev printed : Text → Option Subdivision → Option Text
printed w o = option_and_then (λ s. cond (is_whole s) None (Some w)) o

printed_share : (w : Text) (o : Option Subdivision) →
    length (dashes (subdivision_pieces (printed w o))) ≤ 6 + length w
printed_share w None = let n : length (dashes []) ≡ 0 = refl in omega (arith, n)
printed_share w (Some s) =
    cond_both (is_whole s) None (Some w) (λ x. length (dashes (subdivision_pieces x)) ≤ 6 + length w)
    (λ e. let n : length (dashes []) ≡ 0 = refl in omega (arith, n)) (λ e. value_share w)

-- the pieces of a part's subdivision, and the length of a text that is made of a part
abbrev tail_of : Option Subdivision → List Text
tail_of part = subdivision_pieces
    (option_and_then (λ w. printed w (named_subdivision w)) (option_map subdivision_text part))

data_length : (l : Text) (s v : Option Text) (part : Option Subdivision)
    → length (data_text (made_of l s part v))
    ≡ length l + share s + share (option_map (λ p. p.region) part) + share v + length (dashes (tail_of part))
data_length l s v part = length_of_words l s (option_map (λ p. p.region) part) v (tail_of part)

-- a whole region has no subdivision to print
whole_tail : (r : Text) → IsNormal Region r → length (dashes (tail_of (Some (whole_region r)))) ≡ 0
whole_tail r h = rw (subdivision_back (whole_region r) (whole_region_is r h)) refl

region_is_short : (r : Text) → is_word Region r ≡ true → length r ≤ 3
unfolding is_word
region_is_short r h = grind (arith, nat_tests)

-- A part grows by a region at most.
abbrev Fits : Option Text → Option (Text × Option Text) → Option Subdivision → Type 0
Fits region k part = share (option_map (λ p. p.region) part) + length (dashes (tail_of part))
    ≤ share region + keyword_share k + 4

named_fits : (region : Option Text) (w : Text) (s : Subdivision) → IfSome region (IsNormal Region) →
    subdivision w ≡ Ok s → Fits region (Some (sd, Some w)) (Some (agreed region s))
named_fits None w s h e =
    let a : length (dashes (tail_of (Some s))) ≤ 6 + length (subdivision_text s) =
    printed_share (subdivision_text s) (named_subdivision (subdivision_text s)) in
    let b : length (subdivision_text s) ≡ length w = ap length (text_of_read w s e) ∙ length-lower w in
    let c : length s.region ≤ 3 = region_is_short s.region (read_is_subdivision w s e).region.0 in
    let n : length sd ≡ 2 = refl in
    omega (arith, a, b, c, n)
named_fits (Some r) w s h e =
    cond_both (is_same r s.region) s (whole_region r) (λ p. Fits (Some r) (Some (sd, Some w)) (Some p))
    (λ same.
    let a : length (dashes (tail_of (Some s))) ≤ 6 + length (subdivision_text s) =
    printed_share (subdivision_text s) (named_subdivision (subdivision_text s)) in
    let b : length (subdivision_text s) ≡ length w = ap length (text_of_read w s e) ∙ length-lower w in
    let c : length r ≡ length s.region = ap length (same_is r s.region same) in
    let n : length sd ≡ 2 = refl in
    omega (arith, a, b, c, n))
    (λ other. let a = whole_tail r h in omega (arith, a))

value_fits : (region : Option Text) (o : Option Text) (part : Option Subdivision) →
    IfSome region (IsNormal Region)
    → option_map (λ s. Some (agreed region s)) (option_and_then named_subdivision o) ≡ Some part →
    Fits region (Some (sd, o)) part
value_fits region None part h e = absurd (cc)
value_fits region (Some w) part h e = from (subdivision w) refl e
  where
    from : (r : Result Subdivision _) → subdivision w ≡ r →
        option_map (λ s. Some (agreed region s)) (result_ok r) ≡ Some part →
        Fits region (Some (sd, Some w)) part
    from (Err f) q e = absurd (cc)
    from (Ok s) q e = let same : Some (agreed region s) ≡ part = cc in
        subst (Fits region (Some (sd, Some w))) same (named_fits region w s h q)

part_fits : (region : Option Text) (k : Option (Text × Option Text)) (part : Option Subdivision) →
    IfSome region (IsNormal Region)
    → small_part region k ≡ Some part → Fits region k part
part_fits None None part h e = let same : None ≡ part = cc in
    subst (Fits None None) same (let n : length (dashes []) ≡ 0 = refl in omega (arith, n))
part_fits (Some r) None part h e = let same : Some (whole_region r) ≡ part = cc in
    subst (Fits (Some r) None) same (let a = whole_tail r h in omega (arith, a))
part_fits region (Some (k, o)) part h e = from (is_same k sd) refl e
  where
    from : (b : Bool) → is_same k sd ≡ b →
        cond b (option_map (λ s. Some (agreed region s)) (option_and_then named_subdivision o)) None
        ≡ Some part →
        Fits region (Some (k, o)) part
    from false q e = absurd (cc)
    from true q e = subst (λ (x : Text). Fits region (Some (x, o)) part) (sym (same_is k sd q))
        (value_fits region o part h e)

-- a data locale's text is at most four bytes longer than a text that means it
pub data_text_fits : (t : Text) (d : DataLocale) → DataMeans languages t d →
    length (data_text d) ≤ length t + 4
data_text_fits t d h = from (small_part r.id.region r.keyword) refl h.means
  where
    r : SmallLocale
    r = h.small

    from : (o : Option (Option Subdivision)) → small_part r.id.region r.keyword ≡ o →
        option_map (λ part. made_of r.id.language r.id.script part r.id.variant) o ≡ Some d →
        length (data_text d) ≤ length t + 4
    from None q e = absurd (cc)
    from (Some part) q e =
        let same : made_of r.id.language r.id.script part r.id.variant ≡ d = cc in
        let a = data_length r.id.language r.id.script r.id.variant part in
        let b : Fits r.id.region r.keyword part =
        part_fits r.id.region r.keyword part (read_is_small_value t r h.is_small).region q in
        let c = length_of_small r.id r.keyword in
        let s : length (text (locale_of_small r)) ≤ length t =
        shortest languages t (locale_of_small r) (small_means t r h.is_small) in
        subst (λ (x : DataLocale). length (data_text x) ≤ length t + 4) same (omega (arith, a, b, c, s))

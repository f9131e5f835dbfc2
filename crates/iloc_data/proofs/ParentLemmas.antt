-- The fallback chain of data locales: one part fewer, the end of the chain, and what a parent lacks.
use Rattle.std.proofs.Common.{◌≡◌, ℕ, zero, suc, ◌+◌, ◌≤◌, Bool, true, false, not, List, [], ◌∷◌, ◌++◌, length, refl, sym, ap, ◌∙◌, subst, arith, true≢false, Option, Some, None, option_map, option_to_list, inl, inr, append-nil, append_assoc, Result, Ok, Err}
use Rattle.std.specs.Prelude.{codes, IfSome, option_and_then, if◌then◌else◌}
use Rattle.std.specs.Option.{is_some, option_or}
use Rattle.std.specs.Result.{result_ok}
use Rattle.iloc_spec_grammar.specs.Syntax.{Text, Region, languages, is_word, lower}
use Rattle.iloc_spec_grammar.specs.Meaning.{Fault}
use Rattle.iloc_spec_grammar.specs.Values.{IsNormal}
use Rattle.iloc_spec_grammar.proofs.MapLaws.{same_is}
use Rattle.iloc_spec_parts.specs.Subdivisions.{Subdivision, subdivision}
use Rattle.iloc_spec_parts.specs.DataLocales.{DataLocale, DataKey, IsDataLocale, data_key, data_pieces, is_whole, whole, whole_region, named_subdivision, region_part, subdivision_keyword, subdivision_pieces}
use Rattle.iloc_spec_parts.proofs.SubdivisionLaws.{read_is_subdivision}
use Rattle.iloc_langid.specs.Parents.{is_unknown_language, after_steps}
use Rattle.iloc_data.specs.DataValue.{unknown_data}
use Rattle.iloc_data.specs.DataParents.{region_of, with_whole_region, data_parent, data_part_count, IsUnknownAfter, LacksLastDataPart}
use Rattle.iloc_langid.proofs.ParentLemmas.{known_language}

-- a region is the same as a whole
whole_of_region : (r : Option Text) → option_map (λ s. s.region) (option_map whole_region r) ≡ r
whole_of_region None = refl
whole_of_region (Some r) = refl

-- by what is there and what chooses
by_option : {X Q : Type 0} {x : X} {rest out : Option X} (o : Option Text) →
    option_or (option_map (λ _. x) o) rest ≡ out → ((w : Text) → o ≡ Some w → Some x ≡ out → Q) →
    (o ≡ None → rest ≡ out → Q) → Q
by_option None e f g = g refl e
by_option (Some w) e f g = f w refl e

by_test : {X Q : Type 0} {x y z : X} (b : Bool) → (if b then x else y) ≡ z → (b ≡ true → x ≡ z → Q) →
    (b ≡ false → y ≡ z → Q) → Q
by_test true e f g = f refl e
by_test false e f g = g refl e

-- what holds in each case of what the parent is
module _ (P : DataLocale → Option DataLocale → Type 0)
    (part : (d : DataLocale) (w : Text) → subdivision_keyword d ≡ Some w → P d (Some (with_whole_region d)))
    (variant : (d : DataLocale) (v : Text) → subdivision_keyword d ≡ None → d.variant ≡ Some v
    → P d (Some (record (with_whole_region d) { variant = None })))
    (region : (d : DataLocale) (r : Text) → subdivision_keyword d ≡ None → d.variant ≡ None →
    region_of d ≡ Some r
    → P d (Some (record (with_whole_region d) { region = None })))
    (script : (d : DataLocale) (s : Text) → subdivision_keyword d ≡ None → d.variant ≡ None →
    region_of d ≡ None
    → d.script ≡ Some s → P d (Some (record (with_whole_region d) { script = None })))
    (language : (d : DataLocale) → subdivision_keyword d ≡ None → d.variant ≡ None → region_of d ≡ None →
    d.script ≡ None
    → is_unknown_language d.language ≡ false → P d (Some unknown_data))
    (end : (d : DataLocale) → subdivision_keyword d ≡ None → d.variant ≡ None → region_of d ≡ None →
    d.script ≡ None
    → is_unknown_language d.language ≡ true → P d None)
    (d : DataLocale) where
  by_cases : P d (data_parent d)
  by_cases =
      let all : data_parent d ≡ data_parent d = refl in
      by_option (subdivision_keyword d) all (λ w k e. subst (P d) e (part d w k)) (λ k e.
      by_option d.variant e (λ w v f. subst (P d) f (variant d w k v)) (λ v f.
      by_option (region_of d) f (λ w r g. subst (P d) g (region d w k v r)) (λ r g.
      by_option d.script g (λ w s h. subst (P d) h (script d w k v r s)) (λ s h.
      by_test (is_unknown_language d.language) h (λ u i. subst (P d) i (end d k v r s u))
      (λ u i. subst (P d) i (language d k v r s u))))))

-- the same of a parent that is there
module _ (P : DataLocale → DataLocale → Type 0) where
  abbrev IsSo : DataLocale → Option DataLocale → Type 0
  IsSo d o = IfSome o (P d)

  by_parent : ((d : DataLocale) → IsSo d (data_parent d)) → (d p : DataLocale) → data_parent d ≡ Some p →
      P d p
  by_parent h d p e = subst (IsSo d) e (h d)

-- each parent has one part fewer

pub one_fewer : (d p : DataLocale) → data_parent d ≡ Some p → data_part_count d ≡ data_part_count p + 1
one_fewer = let Fewer = λ (d p : DataLocale). data_part_count d ≡ data_part_count p + 1 in
    by_parent Fewer (by_cases (IsSo Fewer)
    (λ d w k. rw (k, whole_of_region (region_of d)) (omega arith))
    (λ d v k h. rw (k, h, whole_of_region (region_of d)) (omega arith))
    (λ d r k v h. rw (k, v, h) (omega arith))
    (λ d s k v r h. rw (k, v, r, h) (omega arith))
    (λ d k v r s h. rw (k, v, r, s, h) refl)
    (λ d k v r s h. tt))

-- the chain ends

no_part_left : (o : Option Subdivision) → option_map (λ s. s.region) o ≡ None → o ≡ None
no_part_left None e = refl
no_part_left (Some s) e = cc

abbrev IsEnd : DataLocale → Type 0
IsEnd d = (data_part_count d ≡ 0) × (data_key d ≡ data_key unknown_data)

is_end : (d : DataLocale) → data_parent d ≡ None → IsEnd d
is_end = by_cases (λ d o. o ≡ None → IsEnd d) (λ d w k e. cc) (λ d w k v e. cc) (λ d w k v r e. cc)
    (λ d w k v r s e. cc)
    (λ d k v r s h e. cc)
    (λ d k v r s h e. (
      rw (k, v, r, s, h) refl,
      λ i. record {
        language = same_is d.language (codes "und") h i;
        script = s i;
        region = no_part_left (region_part d) r i;
        variant = v i;
      },
    ))

at_zero : (d : DataLocale) (o : Option DataLocale) → data_part_count d ≡ 0 → data_parent d ≡ o →
    IsUnknownAfter 0 d
at_zero d None h e = (d, refl, (is_end d e).1)
at_zero d (Some p) h e = absurd (omega (arith, one_fewer d p e))

goes_on : (n : ℕ) (d : DataLocale) → data_part_count d ≡ suc n → (o : Option DataLocale) → data_parent d ≡ o
    → ((p : DataLocale) → data_part_count p ≡ n → IsUnknownAfter n p) → IsUnknownAfter (suc n) d
goes_on n d h None e next = absurd (omega (arith, (is_end d e).0))
goes_on n d h (Some p) e next =
    let after = next p (omega (arith, one_fewer d p e)) in
    (after.0, ap (option_and_then (after_steps data_parent n)) e ∙ after.1, after.2)

pub chain_ends : (n : ℕ) (d : DataLocale) → data_part_count d ≡ n → IsUnknownAfter n d
chain_ends zero d h = at_zero d (data_parent d) h refl
chain_ends (suc n) d h = goes_on n d h (data_parent d) refl (λ p. chain_ends n p)

pub no_parent : data_parent unknown_data ≡ None
no_parent = refl

at_most_one : (o : Option Text) → length (option_to_list o) ≤ 1
at_most_one None = omega arith
at_most_one (Some w) = omega arith

one_or_none : (b : Bool) → (if b then 0 else 1) ≤ 1
one_or_none true = omega arith
one_or_none false = omega arith

pub few_parts : (d : DataLocale) → data_part_count d ≤ 5
few_parts d = omega (
  arith,
  at_most_one (subdivision_keyword d),
  at_most_one d.variant,
  at_most_one (region_of d),
  at_most_one d.script,
  one_or_none (is_unknown_language d.language),
)

-- what a parent lacks

-- the pieces of these parts
abbrev pieces_of : Text → Option Text → Option Text → Option Text → Option Text →
    List Text
pieces_of l s r v k =
    l ∷ (option_to_list s ++ (option_to_list r ++ (option_to_list v ++ subdivision_pieces k)))

has_pieces : (d : DataLocale) (s r v k : Option Text) → d.script ≡ s → d.region ≡ r → d.variant ≡ v →
    subdivision_keyword d ≡ k
    → data_pieces d ≡ pieces_of d.language s r v k
has_pieces d s r v k a b c e = λ i. pieces_of d.language (a i) (b i) (c i) (e i)

cut_region : (l : Text) (s : Option Text) (r : Text) →
    pieces_of l s (Some r) None None ≡ pieces_of l s None None None ++ r ∷ []
cut_region l s r = simp append-nil

pub lacks_last : (d p : DataLocale) → d.region ≡ region_of d → data_parent d ≡ Some p → LacksLastDataPart d p
lacks_last d p same e =
    let Lacks = λ (d p : DataLocale). d.region ≡ region_of d → LacksLastDataPart d p in
    by_parent Lacks (by_cases (IsSo Lacks)
    (λ d w k g. inl (
      subdivision_pieces (Some w),
      omega arith,
      has_pieces d d.script (region_of d) d.variant (Some w) refl g refl k ∙ simp (append_assoc, append-nil),
    ))
    (λ d v k h g. inl (
      v ∷ [],
      omega arith,
      has_pieces d d.script (region_of d) (Some v) None refl g h k ∙ simp (append_assoc, append-nil),
    ))
    (λ d r k v h g. inl (
      r ∷ [],
      omega arith,
      has_pieces d d.script (Some r) None None refl (g ∙ h) v k
          ∙ cut_region d.language d.script r
          ∙ ap (λ x. pieces_of d.language d.script None x None ++ r ∷ []) (sym v),
    ))
    (λ d s k v r h g. inl (
      s ∷ [],
      omega arith,
      has_pieces d (Some s) None None None h (g ∙ r) v k
          ∙ λ i. pieces_of d.language None (sym r i) (sym v i) None ++ s ∷ [],
    ))
    (λ d k v r s h g. inr (has_pieces d None None None None s (g ∙ r) v k, refl))
    (λ d k v r s h. tt)) d p e same

-- a parent is a data locale

region_normal : (o r : Option Text) → IfSome r (IsNormal Region)
    → IfSome
    (option_map (λ s. s.region) (option_or (option_and_then named_subdivision o) (option_map whole_region r)))
    (IsNormal Region)
region_normal None r h = subst (λ x. IfSome x (IsNormal Region)) (sym (whole_of_region r)) h
region_normal (Some w) r h = by (subdivision w) refl
  where
    by : (x : Result Subdivision Fault) → subdivision w ≡ x
        → IfSome (option_map (λ s. s.region) (option_or (result_ok x) (option_map whole_region r)))
        (IsNormal Region)
    by (Ok s) e = (read_is_subdivision w s e).region
    by (Err f) e = subst (λ x. IfSome x (IsNormal Region)) (sym (whole_of_region r)) h

unknown_is : IsDataLocale languages unknown_data
unfolding is_word languages lower
unknown_is = record { language = (refl, refl); script = tt; region = tt; variant = tt; subdivision = tt }

whole_is : (d : DataLocale) → IsDataLocale languages d → IsDataLocale languages (with_whole_region d)
whole_is d h = record {
  language = h.language;
  script = h.script;
  region = region_normal d.subdivision d.region h.region;
  variant = h.variant;
  subdivision = tt;
}

pub parent_value : (d p : DataLocale) → IsDataLocale languages d → data_parent d ≡ Some p →
    IsDataLocale languages p
parent_value d p v e =
    let Values = λ (d p : DataLocale). IsDataLocale languages d → IsDataLocale languages p in
    by_parent Values (by_cases (IsSo Values)
    (λ d w k h. whole_is d h)
    (λ d v k e h. let w = whole_is d h in
    record { language = w.language; script = w.script; region = w.region; variant = tt; subdivision = tt })
    (λ d r k v e h.
    record { language = h.language; script = h.script; region = tt; variant = h.variant; subdivision = tt })
    (λ d s k v r e h. let w = whole_is d h in
    record { language = w.language; script = tt; region = w.region; variant = w.variant; subdivision = tt })
    (λ d k v r s e h. unknown_is)
    (λ d k v r s h. tt)) d p e v

-- equal data locales have equal parents

-- whether it is a part of a region, and not the whole of one
abbrev is_part : Option Subdivision → Bool
is_part None = false
is_part (Some s) = not (is_whole s)

part_printed : (o r : Option Text) →
    is_some (option_and_then
    (λ w. option_and_then (λ s. if is_whole s then None else Some w) (named_subdivision w)) o)
    ≡ is_part (option_or (option_and_then named_subdivision o) (option_map whole_region r))
part_printed None None = refl
part_printed None (Some r) = refl
part_printed (Some w) r = by (named_subdivision w)
  where
    printed : (b : Bool) → is_some (if b then None else Some w) ≡ not b
    printed true = refl
    printed false = refl

    none : (r : Option Text) → false ≡ is_part (option_map whole_region r)
    none None = refl
    none (Some r) = refl

    by : (x : Option Subdivision) →
        is_some (option_and_then (λ s. if is_whole s then None else Some w) x)
        ≡ is_part (option_or x (option_map whole_region r))
    by None = none r
    by (Some s) = printed (is_whole s)

-- the parent of a key
abbrev key_parent : DataKey → Option DataKey
key_parent k =
    let r = option_map (λ s. s.region) k.region in
    let w : DataKey = record {
      language = k.language;
      script = k.script;
      region = option_map whole_region r;
      variant = k.variant;
    } in
    option_or (if is_part k.region then Some w else None)
    (option_or (option_map (λ _. record w { variant = None }) k.variant)
    (option_or (option_map (λ _. record w { region = None }) r)
    (option_or (option_map (λ _. record w { script = None }) k.script)
    (if is_unknown_language k.language then None else Some (data_key unknown_data)))))

part_is : (d : DataLocale) {o : Option Text} → subdivision_keyword d ≡ o → is_part (region_part d) ≡ is_some o
part_is d e = sym (part_printed d.subdivision d.region) ∙ ap is_some e

keyed : (d : DataLocale) → option_map data_key (data_parent d) ≡ key_parent (data_key d)
keyed = by_cases (λ d o. option_map data_key o ≡ key_parent (data_key d))
    (λ d w k. rw (part_is d k) refl)
    (λ d w k v. rw (part_is d k, v) refl)
    (λ d w k v r. rw (part_is d k, v, r) refl)
    (λ d w k v r s. rw (part_is d k, v, r, s) refl)
    (λ d k v r s u. rw (part_is d k, v, r, s, u) refl)
    (λ d k v r s u. rw (part_is d k, v, r, s, u) refl)

pub alike : (d e : DataLocale) → data_key d ≡ data_key e →
    option_map data_key (data_parent d) ≡ option_map data_key (data_parent e)
alike d e h = keyed d ∙ ap key_parent h ∙ sym (keyed e)

-- what leaving the language answers

none : {X : Type 0} (o : Option X) → false ≡ is_some o → o ≡ None
none None h = refl
none (Some x) h = absurd (true≢false (sym h))

pub language_left : (d e w : DataLocale) (k : Option Text) → k ≡ subdivision_keyword d
    → false ≡ is_some k → false ≡ is_some d.variant → w ≡ with_whole_region d → false ≡ is_some w.region →
    false ≡ is_some d.script
    → (d.language ≡ codes "und" → false ≡ true) → e ≡ unknown_data → Some e ≡ data_parent d
language_left d e w k is h v whole r s known end =
    let part : subdivision_keyword d ≡ None = none (subdivision_keyword d) (h ∙ ap is_some is) in
    let region : region_of d ≡ None = none (region_of d) (r ∙ ap (λ x. is_some x.region) whole) in
    rw (part, none d.variant v, region, none d.script s, known_language d.language known) (ap Some end)

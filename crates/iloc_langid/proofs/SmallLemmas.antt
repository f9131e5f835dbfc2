-- Identifiers with at most one variant, read from the left.
use Rattle.std.proofs.Common.{◌≡◌, ◌≢◌, ◌≤◌, Bool, List, [], ◌∷◌, ◌++◌, length, map, refl, sym, ap, ◌∙◌, subst, arith, append-nil, Option, option_map, Result, Ok, Err, IfOk}
use Rattle.std.specs.List.{AllByRecursion}
use Rattle.iloc_spec_grammar.specs.Syntax.{Text, Language, Script, Region, Variant, is_word, IsWord, lower, title, upper, languages, SpelledIdentifier, HasWords, identifier_pieces, first_piece}
use Rattle.iloc_spec_grammar.specs.Reading.{first_item, take_first, skip_first, passing, past, rest_of, after_script, after_region, front_of, after_front}
use Rattle.iloc_spec_grammar.proofs.ReadingLaws.{all_while, pieces-front_of, front_words, front_of-pieces, after_front-pieces}
use Rattle.iloc_spec_parts.specs.Small.{SmallIdentifier, IsSmallIdentifier, HasSmallIdentifierFault, no_language, no_identifier, identifier_of_small}
use Rattle.iloc_subtags.specs.declared.parse_error.ParseError.{ParseError}
use Rattle.iloc_subtags.specs.declared.parse_error.ParseError.TheVariants.{InvalidLanguage, InvalidSubtag, InvalidExtension, DuplicatedExtension, OutOfMemory}
use Rattle.iloc_langid.specs.declared.plain.PlainParts.{PlainParts}
use Rattle.iloc_langid.specs.PlainReads.{IsPlainFront}
use Rattle.iloc_langid.specs.SmallReads.{Parts, small_of, SmallReads, front_parts, after_parts, SmallFrontReads}
use Rattle.iloc_langid.proofs.FrontLemmas.{no_language as no_parts}
use Rattle.iloc_spec_parts.specs.SmallComputing.{small_identifier}
use Rattle.iloc_spec_parts.proofs.SmallShapes.{small_identifier_of, one_variant}
use Rattle.iloc_spec_parts.proofs.SmallLaws.{short_different, one_small_identifier, small_identifier_apart, one_small_identifier_fault}
use Rattle.iloc_spec_grammar.specs.Meaning.{Fault, IdentifierMeans}
use Rattle.iloc_subtags.specs.Judging.{Accepts, Refuses}
use Rattle.iloc_subtags.proofs.Judged.{Judges, accepts, refuses}

abbrev variant : Text → Bool
variant p = is_word Variant p

-- after one variant at most nothing is left: there is one at most
few : (us : List Text) → skip_first variant us ≡ [] →
    (passing variant us ≡ us) × (length us ≤ 1)
    × (first_item (map lower us) ≡ option_map lower (take_first variant us))
few us h = grind arith

-- one variant at most, and nothing else, leaves nothing
none_left : (us : List Text) → length us ≤ 1 → AllByRecursion (IsWord Variant) us →
    skip_first variant us ≡ []
none_left [] l h = refl
none_left (u ∷ []) l h = rw h.0 refl
none_left (u ∷ v ∷ us) l h = absurd (omega (arith, l))

-- the variants at the front, and what follows them
kept_are : (ps : List Text) → (front_of ps).variants ≡ passing variant (after_region ps)
unfolding front_of
kept_are ps = refl

left_are : (ps : List Text) → after_front ps ≡ past variant (after_region ps)
unfolding after_front
left_are ps = refl

pub parts_are : (ps : List Text) →
    ((front_of ps).language ≡ first_piece ps)
    × ((front_of ps).script ≡ take_first (is_word Script) (rest_of ps))
    × ((front_of ps).region ≡ take_first (is_word Region) (after_script ps))
unfolding front_of
parts_are ps = (refl, refl, refl)

nothing_after : (xs ys : List Text) → xs ++ ys ≡ xs → ys ≡ []
nothing_after [] ys e = e
nothing_after (x ∷ xs) ys e = nothing_after xs ys cc

-- where all pieces are variants, none are left
pub past_none : (us : List Text) → passing variant us ≡ us → past variant us ≡ []
past_none us e =
    nothing_after us (past variant us) (ap (λ l. l ++ past variant us) (sym e) ∙ all_while variant us)

-- what is read whole
pub small_read : (p : Text) (ps : List Text) → IsWord (Language languages) p →
    after_parts (p ∷ ps) ≡ [] → IsSmallIdentifier languages (p ∷ ps) (small_of (front_parts (p ∷ ps)))
small_read p ps h e =
    let us = after_region (p ∷ ps) in
    let (all, one, first) = few us e in
    let kept : (front_of (p ∷ ps)).variants ≡ us = kept_are (p ∷ ps) ∙ all in
    let short : length (front_of (p ∷ ps)).variants ≤ 1 = subst (λ l. length l ≤ 1) (sym kept) one in
    let nothing : after_front (p ∷ ps) ≡ [] = left_are (p ∷ ps) ∙ past_none us all in
    let parts = parts_are (p ∷ ps) in
    let is : small_of (front_parts (p ∷ ps)) ≡ small_identifier (front_of (p ∷ ps)) = let l = sym parts.0 in
    let c = sym parts.1 in
    let r = sym parts.2 in λ i. record {
      language = lower (l i);
      script = option_map title (c i);
      region = option_map upper (r i);
      variant = (sym first ∙ ap (λ l. first_item (map lower l)) (sym kept)) i;
    } in
    subst (IsSmallIdentifier languages (p ∷ ps)) (sym is) (small_identifier_of (p ∷ ps) (front_of (p ∷ ps))
    (record {
      words = front_words (p ∷ ps) h;
      different = short_different (front_of (p ∷ ps)).variants short;
    })
    (sym (sym (append-nil (identifier_pieces (front_of (p ∷ ps))))
    ∙ ap (λ l. identifier_pieces (front_of (p ∷ ps)) ++ l) (sym nothing) ∙ pieces-front_of p ps))
    short)

-- what follows the region of an identifier are its variants
pub after_region-pieces : (w : SpelledIdentifier) → HasWords languages w →
    after_region (identifier_pieces w) ≡ w.variants
after_region-pieces w h =
    let qs = identifier_pieces w in
    sym (all_while variant (after_region qs))
    ∙ ap (λ l. l ++ past variant (after_region qs))
    (sym (kept_are qs) ∙ ap (λ (i : SpelledIdentifier). i.variants) (front_of-pieces w h))
    ∙ ap (λ l. w.variants ++ l) (sym (left_are qs) ∙ after_front-pieces w h)
    ∙ append-nil w.variants

-- an identifier with one variant at most leaves nothing
pub small_left : (ps : List Text) (r : SmallIdentifier) → IsSmallIdentifier languages ps r →
    after_parts ps ≡ []
small_left ps r h =
    let e = after_region-pieces h.written h.grammatical.words in
    subst (λ l. after_parts l ≡ []) (sym h.spelled)
    (ap (skip_first variant) e
    ∙ none_left h.written.variants (one_variant ps r h) h.grammatical.words.variants)

pub parts_whole : (ps rest : List Text) (p : Parts) → SmallFrontReads ps rest (Ok p) → rest ≡ [] →
    SmallReads ps (Ok p)
parts_whole [] rest p g e = no_parts g.0
parts_whole (q ∷ ps) rest p g e = grind (arith, small_read)

pub parts_more : (ps rest : List Text) (p : Parts) → SmallFrontReads ps rest (Ok p) → rest ≢ [] →
    SmallReads ps (Err InvalidSubtag)
parts_more ps rest p g n = no_identifier g.0 (λ r h. n (g.2 ∙ small_left ps r h))

pub parts_refused : (ps rest : List Text) (e : ParseError) → SmallFrontReads ps rest (Err e) →
    SmallReads ps (Err e)
parts_refused ps rest InvalidLanguage g = no_language g.1
parts_refused ps rest InvalidSubtag g = let other = g.0 in cc
parts_refused ps rest InvalidExtension g = let other = g.0 in cc
parts_refused ps rest DuplicatedExtension g = let other = g.0 in cc
parts_refused ps rest OutOfMemory g = g

-- the parts at the front, and a variant after them
pub parts_give : (ps us rest : List Text) (plain : PlainParts) (v : Option Text) →
    IsPlainFront ps us plain
    → v ≡ option_map lower (take_first variant us) → rest ≡ skip_first variant us
    → SmallFrontReads ps rest (Ok (plain.language, plain.script, plain.region, v))
parts_give ps us rest plain v f e el = grind arith

-- what is owed to each text

small_judges : (ps : List Text) →
    Judges (IsSmallIdentifier languages ps) (HasSmallIdentifierFault languages ps)
small_judges ps = record {
  one = one_small_identifier ps;
  apart = small_identifier_apart ps;
  one_fault = λ f g. one_small_identifier_fault ps;
}

pub small_accepts : (ps : List Text) (r : Result Parts ParseError) → SmallReads ps r →
    (s : SmallIdentifier) → IsSmallIdentifier languages ps s → Accepts small_of ⊥ s r
small_accepts ps r h = accepts small_of ⊥ (small_judges ps) r h

pub small_refuses : (ps : List Text) (r : Result Parts ParseError) → SmallReads ps r → (f : Fault) →
    HasSmallIdentifierFault languages ps f → Refuses ⊥ f r
small_refuses ps r h = refuses small_of ⊥ (small_judges ps) r h

pub small_means : (ps : List Text) (r : Result Parts ParseError) → SmallReads ps r →
    IfOk r (λ p. IdentifierMeans languages ps (identifier_of_small (small_of p)))
small_means ps r h = grind arith

use Rattle.std.proofs.Common.{◌≡◌, ◌∷◌, ◌∙◌, ◌==◌, ◌&&◌, Bool, true, false, not, length, sym, ap, refl, true≢false, eq-eqb}
use borrow.Author.Tests.{eqb-true}
use Rattle.std.proofs.lemmas.Bool.{and_parts, and_from}
use Rattle.std.specs.Cmp.Lexicographic.{same_text}
use Rattle.iloc_spec_grammar.specs.Syntax.{pieces, Language, languages}
use Rattle.iloc_subtags.specs.Left.{left}
use Rattle.iloc_langid.specs.Agreeing.{are_all_among}
use Rattle.iloc_langid.proofs.AgreeingLemmas.{same_option, other_option, script_is, region_is, variants_are, all_mean, are_these, these_are}
use Rattle.iloc_langid.proofs.identifier.LanguageIdentifier.normalizing_eq.Goals as goal
use Rattle.iloc_spec_grammar.proofs.ReadWords.{accepted_from_read}

not_true : (b : Bool) → true ≡ not b → b ≡ false
not_true true h = h
not_true false h = refl

not_false : (b : Bool) → false ≡ not b → b ≡ true
not_false true h = refl
not_false false h = h

pub returns-then-ne-2 : goal.returns-then-ne-2
returns-then-ne-2 c =
    let first = c.in-Some.first.now in
    let qs = left c.next.new.self in
    let rs = left c.take_word-script.new.iter in
    let word = accepted_from_read (Language languages) _ first c.in-Ok.language c.in-Ok.ensures in
    let e : pieces c.args.other.now ≡ first ∷ qs =
    ap pieces (sym c.as_bytes.ensures.value) ∙ sym c.new-iter.ensures ∙ c.in-Some.ensures.steps in (
      λ h. absurd (true≢false (sym h)),
      λ m.
          absurd (other_option c.take_word-script.result c.args.self.now.script (not_true _ c.if-ne-2.ensures)
          (script_is (pieces c.args.other.now) first qs rs _ c.args.self.now c.in-Ok.language
          c.take_word-script.result _ e word.0 word.1 c.take_word-script.ensures.word
          c.take_word-script.ensures.rest refl refl m)),
    )

pub returns-then-ne-3 : goal.returns-then-ne-3
returns-then-ne-3 c =
    let first = c.in-Some.first.now in
    let qs = left c.next.new.self in
    let rs = left c.take_word-script.new.iter in
    let us = left c.take_word-region.new.iter in
    let word = accepted_from_read (Language languages) _ first c.in-Ok.language c.in-Ok.ensures in
    let e : pieces c.args.other.now ≡ first ∷ qs =
    ap pieces (sym c.as_bytes.ensures.value) ∙ sym c.new-iter.ensures ∙ c.in-Some.ensures.steps in (
      λ h. absurd (true≢false (sym h)),
      λ m.
          absurd (other_option c.take_word-region.result c.args.self.now.region (not_true _ c.if-ne-3.ensures)
          (region_is (pieces c.args.other.now) first qs rs us c.args.self.now c.in-Ok.language
          c.take_word-script.result c.take_word-region.result e word.0 word.1 c.take_word-script.ensures.word
          c.take_word-script.ensures.rest c.take_word-region.ensures.word c.take_word-region.ensures.rest m)),
    )

pub returns : goal.returns
returns c =
    let first = c.in-Some.first.now in
    let qs = left c.next.new.self in
    let rs = left c.take_word-script.new.iter in
    let us = left c.take_word-region.new.iter in
    let word = accepted_from_read (Language languages) _ first c.in-Ok.language c.in-Ok.ensures in
    let e : pieces c.args.other.now ≡ first ∷ qs =
    ap pieces (sym c.as_bytes.ensures.value) ∙ sym c.new-iter.ensures ∙ c.in-Some.ensures.steps in
    let vs = c.args.self.now.variants in
    let has : c.has_variants.result ≡ ((length us == length vs) && are_all_among us vs) =
    c.has_variants.ensures
    ∙ ap (λ ws. (length us == length ws) && are_all_among us ws) c.as_slice.ensures.value in (
      λ t.
          let parts = and_parts _ _ (sym has ∙ t) in
          all_mean (pieces c.args.other.now) first qs rs us c.args.self.now c.in-Ok.language
          c.take_word-script.result c.take_word-region.result e word.0 word.1 c.take_word-script.ensures.word
          c.take_word-script.ensures.rest c.take_word-region.ensures.word c.take_word-region.ensures.rest
          (same_text _ _ (sym (not_false _ c.if-ne.ensures)))
          (same_option _ _ (not_false _ c.if-ne-2.ensures)) (same_option _ _ (not_false _ c.if-ne-3.ensures))
          (are_these us vs c.as_slice.ensures.ascending c.as_slice.ensures.normal (eqb-true _ _ parts.0)
          parts.1),
      λ m.
          let there = these_are us vs (variants_are (pieces c.args.other.now) first qs rs us c.args.self.now
          c.in-Ok.language c.take_word-script.result c.take_word-region.result e word.0 word.1
          c.take_word-script.ensures.word c.take_word-script.ensures.rest c.take_word-region.ensures.word
          c.take_word-region.ensures.rest m) in
          has ∙ and_from _ _ (eq-eqb _ _ there.0) there.1,
    )

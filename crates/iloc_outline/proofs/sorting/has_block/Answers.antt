use Rattle.std.proofs.Common.{◌≡◌, ◌&&◌, ◌==◌, true, slice_index_or, sym, ap, ◌∙◌, arith, refl, true≢false}
use Rattle.std.specs.List.{list_any}
use Rattle.std.proofs.lemmas.List.{take_all}
use Rattle.std.proofs.lemmas.List.Folds.{list_any_at}
use Rattle.std.proofs.lemmas.Bool.Decides.{nat_tests}
use Rattle.iloc_outline.specs.Groups.{is_singleton}
use Rattle.iloc_spans.specs.declared.span.TheConstants.{NO_SPAN}
use Rattle.iloc_outline.proofs.GroupsLemmas.{any_span, is_of_rank, singleton_told}
use Rattle.iloc_outline.proofs.sorting.has_block.Goals as goal

pub returns-then-span-rank : goal.returns-then-span-rank
returns-then-span-rank c = λ t before groups g s.
    let held = c.as_slice-held.result.now in
    let i = c.loop-i.i in
    let span = slice_index_or held i NO_SPAN in
    let word : span.word ≡ c.args.rank = c.if-span-rank.true in
    let role : is_singleton span.role ≡ true =
    sym (singleton_told span.role) ∙ sym c.eq.ensures ∙ c.if-eq.true in
    let same : (span.word == c.args.rank) ≡ true = grind (arith, nat_tests) in
    let here : is_of_rank c.args.rank span.role span.word ≡ true = λ j. role j && same j in
    let there =
    list_any_at (λ s. is_of_rank c.args.rank s.role s.word) held i NO_SPAN c.loop-i-test.true here in
    let any = ap (list_any (λ s. is_of_rank c.args.rank s.role s.word)) c.as_slice-held.ensures in (
      λ _. sym (search any_span) ∙ sym any ∙ there,
      λ _. refl,
    )

pub returns : goal.returns
returns c = λ t before groups g s.
    let held = c.as_slice-held.result.now in
    let any = ap (list_any (λ s. is_of_rank c.args.rank s.role s.word)) c.as_slice-held.ensures in
    let none = sym (search any_span) ∙ sym any
    ∙ ap (list_any (λ s. is_of_rank c.args.rank s.role s.word))
    (sym (take_all c.loop-i.i held (omega (arith, c.loop-i-test.false)))) ∙ c.loop-i.invariant in
    (λ h. absurd (true≢false (sym h)), λ m. sym none ∙ m)

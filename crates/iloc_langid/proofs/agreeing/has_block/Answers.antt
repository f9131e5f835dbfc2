use Rattle.std.proofs.Common.{◌≡◌, ◌≤◌, false, true, length, not, replicate, ap, sym, refl, ◌∙◌, subst}
use Rattle.std.proofs.lemmas.List.{length-replicate, length-set}
use Rattle.std.specs.List.{HoldsAt, list_any}
use Rattle.std.specs.declared.cmp.Ordering.TheVariants.{Equal}
use Rattle.iloc_spec_grammar.specs.Syntax.{Variant, word_cmp, is_same}
use Rattle.iloc_spec_grammar.proofs.ReadWords.{accepted_from_read, refused_from_read}
use Rattle.iloc_spec_grammar.proofs.ValuesLaws.{ascending_different}
use Rattle.iloc_word_list.proofs.SetLaws.{search_new}
use Rattle.iloc_subtags.specs.Left.{left}
use Rattle.iloc_langid.proofs.WalkLemmas.{are_found, none_found, other_found, one_found, no_variant, all_found}
use Rattle.iloc_langid.proofs.agreeing.has_block.Goals as goal

pub loop-piece-init : goal.loop-piece-init
loop-piece-init g c = (
  length-replicate g.row.N false,
  ap (λ it. are_found (left it) c.args.block.now (replicate g.row.N false))
      c.into_iter-piece-iterator.ensures.into_iter_gives
      ∙ none_found (left c.args.iter) c.args.block.now g.row.N,
)

pub loop-piece-preserved-in-Ok-binary_search : goal.loop-piece-preserved-in-Ok-binary_search
loop-piece-preserved-in-Ok-binary_search g c =
    let p = c.in-Some.piece.now in
    let ps = left c.next.new.self in
    let found = c.loop-piece.found in
    let ws = c.args.block.now in
    let word = accepted_from_read Variant _ p c.in-Ok.variant c.in-Ok.ensures in
    let long : length ws ≤ length found =
    subst (λ n. length ws ≤ n) (sym c.loop-piece.invariant.0) c.requires.few in (
      length-set found c.in-Ok-binary_search.at true ∙ c.loop-piece.invariant.0,
      sym (one_found p ps ws found c.in-Ok-binary_search.at (ascending_different ws c.requires.set.0)
          c.in-Ok-binary_search.ensures.bound long
          (subst (λ x. HoldsAt (λ y. word_cmp y x ≡ Equal) ws c.in-Ok-binary_search.at) word.1
          c.in-Ok-binary_search.ensures.ok))
          ∙ ap (λ l. are_found l ws found) (sym c.in-Some.ensures.steps) ∙ c.loop-piece.invariant.1,
    )

pub loop-piece-preserved-in_default-binary_search : goal.loop-piece-preserved-in_default-binary_search
loop-piece-preserved-in_default-binary_search g c =
    let p = c.in-Some.piece.now in
    let ws = c.args.block.now in
    let word = accepted_from_read Variant _ p c.in-Ok.variant c.in-Ok.ensures in
    let new = search_new ws ws c.in-Ok.variant c.in_default-binary_search.field-0 refl c.requires.set.0
    c.in_default-binary_search.ensures.bound c.in_default-binary_search.ensures.position in (
      c.loop-piece.invariant.0,
      sym (other_found p (left c.next.new.self) ws c.loop-piece.found
          (subst (λ x. list_any (is_same x) ws ≡ false) word.1 new.absent))
          ∙ ap (λ l. are_found l ws c.loop-piece.found) (sym c.in-Some.ensures.steps)
          ∙ c.loop-piece.invariant.1,
    )

pub loop-piece-preserved : goal.loop-piece-preserved
loop-piece-preserved g c =
    let p = c.in-Some.piece.now in
    let ws = c.args.block.now in
    let none = refused_from_read Variant _ c.in_default.field-0 p c.in_default.ensures in (
      c.loop-piece.invariant.0,
      sym (other_found p (left c.next.new.self) ws c.loop-piece.found
          (no_variant p ws c.requires.set.1 none.0))
          ∙ ap (λ l. are_found l ws c.loop-piece.found) (sym c.in-Some.ensures.steps)
          ∙ c.loop-piece.invariant.1,
    )

pub returns : goal.returns
returns g c =
    let found = c.loop-piece.found in
    let ws = c.args.block.now in
    let long : length ws ≤ length found =
    subst (λ n. length ws ≤ n) (sym c.loop-piece.invariant.0) c.requires.few in
    ap not c.contains.ensures.value
    ∙ sym (all_found _ refl refl ws found long)
    ∙ ap (λ l. are_found l ws found) (sym c.in-None.ensures.steps.0) ∙ c.loop-piece.invariant.1

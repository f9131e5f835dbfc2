use Rattle.std.proofs.Common.{◌≡◌, ◌+◌, ◌-◌, add-zero, append-nil, arith}
use Rattle.std.proofs.lemmas.List.{length-drop, length-take-le, take-take}
use Rattle.std.proofs.lemmas.Simd.{length-put_chunk, take_more_put_chunk}
use Rattle.iloc_spec_grammar.specs.Syntax.{lower}
use Rattle.iloc_spec_grammar.proofs.WordsLaws.{length-lower}
use Rattle.iloc_outline.proofs.CopyingLemmas.{copied_first, copied_more}
use Rattle.iloc_outline.proofs.printing.copy_lower.Goals as goal

pub parts-init : goal.parts-init
unfolding lower
parts-init c = grind (arith, add-zero, append-nil)

pub parts-preserved : goal.parts-preserved
parts-preserved c = grind (
  arith,
  take-take,
  length-lower,
  length-take-le,
  length-drop,
  length-put_chunk,
  copied_more,
  take_more_put_chunk,
)

pub returns-then-done-count : goal.returns-then-done-count
returns-then-done-count c =
    let d = c.parts.done in
    let all : d + (c.args.count - d) ≡ c.args.count = omega (arith, c.if-done-count.true) in
    grind (arith, copied_more)

pub returns-else-done-count : goal.returns-else-done-count
returns-else-done-count c = grind (arith, copied_first, length-take-le)

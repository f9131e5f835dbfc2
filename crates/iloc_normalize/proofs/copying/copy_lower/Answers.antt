-- What was copied grows by sixteen bytes, and at the end by those that are left.
use Rattle.std.proofs.Common.{◌≡◌, ◌+◌, ◌-◌, ◌≤◌, length, take, drop, take_all, refl, sym, ap, ◌∙◌, arith}
use borrow.Rule.Slice.PartMut.{put_mid}
use Rattle.iloc_spec_grammar.specs.Syntax.{lower}
use Rattle.iloc_normalize.proofs.CopyLemmas.{same_room, copied_more, sixteen}
use Rattle.iloc_normalize.proofs.copying.copy_lower.Goals as goal

pub parts-init : goal.parts-init
unfolding lower
parts-init c = record { within = omega arith; room = c.requires.room; copied = refl }

pub parts-preserved : goal.parts-preserved
parts-preserved c =
    let at = c.parts.at in let from = c.args.from.now in let k = at + 16 - at in
    let part = c.copy_all.new.to in
    let few : k ≤ 16 = omega arith in
    let sum : at + 16 ≡ at + k = omega arith in
    let fits : at + 16 ≤ c.args.count = omega (arith, c.parts-test.true) in
    let is = sixteen k (take (length from - at) (drop at from)) part (omega arith)
    (c.copy_all.ensures ∙ c.as_array.ensures ∙ c.first_in_lower_case-part.ensures) in
    search (same_room, copied_more)

pub returns : goal.returns
returns c =
    let at = c.parts.at in let from = c.args.from.now in let n = c.args.count in let k = n - at in
    let part = c.copy_all-2.new.to in
    let few : k ≤ 16 = omega (arith, c.parts-test.false) in
    let sum : n ≡ at + k = omega (arith, c.parts.invariant.within) in
    let fits : n ≤ n = omega arith in
    let is =
    c.copy_all-2.ensures ∙ ap (take k) (c.as_array-2.ensures ∙ c.first_in_lower_case-part-2.ensures) in
    let all =
    same_room at k n n from c.parts.to part few sum fits c.requires.bytes c.parts.invariant.room is in
    sym (take_all n (put_mid at k c.parts.to part) (omega (arith, all)))
    ∙ copied_more at k n n from c.parts.to part few sum fits c.requires.bytes c.parts.invariant.room is
    c.parts.invariant.copied

-- Where no other part has a piece, the pieces are those of the others.
use Rattle.std.proofs.Common.{◌≡◌, Bool, true, false, not, IsTrue, refl, sym, ◌∙◌}
use Rattle.iloc_extensions.specs.ExtensionsValue.{value_of}
use Rattle.iloc_extensions.proofs.SplitLemmas.{none_there, others_alone}
use Rattle.iloc_extensions.proofs.extensions.Extensions.has_others_alone.Goals.{then-has_pieces, else-has_pieces, then-has_pieces-2, else-has_pieces-2}
use Rattle.iloc_extensions.proofs.extensions.Extensions.has_others_alone.Goals as goal

was_false : (b : Bool) → IsTrue (not b) → b ≡ false
was_false true h = cc
was_false false h = refl

clash : (b : Bool) → b ≡ true → b ≡ false → ⊥
clash b h k = cc

pub returns : goal.returns
returns c h = elim c.if-has_pieces-2.branch [
  | then-has_pieces-2 w ↦ absurd (clash _ w.if-has_pieces-2.true (sym w.result-is ∙ was_false _ h))
  | else-has_pieces-2 w ↦ elim c.if-has_pieces.branch [
    | then-has_pieces v ↦
        absurd (clash _ v.if-has_pieces.true (sym v.value-is ∙ w.if-has_pieces-2.false))
    | else-has_pieces v ↦ others_alone (value_of c.args.self.now)
        (none_there _ (sym c.has_pieces.ensures ∙ v.if-has_pieces.false))
        (none_there _
        (sym v.has_pieces-else-has_pieces.ensures ∙ (sym v.value-is ∙ w.if-has_pieces-2.false)))
        (none_there _
        (sym w.has_pieces-else-has_pieces-2.ensures ∙ (sym w.result-is ∙ was_false _ h)))
  ]
]

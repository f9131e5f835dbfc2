use Rattle.std.proofs.Common.{◌≡◌, ℕ, ◌<◌, ◌≤◌, length, take, Option, Some, None, sym, ap, ◌∙◌, arith}
use Rattle.std.specs.Prelude.{MatchOption, IfSome, IfNone}
use Rattle.std.proofs.lemmas.List.{length-take-le}
use Rattle.iloc_subtags.proofs.PeekLemmas.{none_left, first_left}
use Rattle.iloc_subtags.proofs.subtag_iterator.SubtagIterator.peek_short.Goals as goal
use Rattle.iloc_spec_grammar.specs.Syntax.{Text}

pub returns-then-not-has_length : goal.returns-then-not-has_length
returns-then-not-has_length g c =
    none_left g.K.WordKind.kind c.args.self.now (sym c.has_length.ensures.value ∙ c.if-not-has_length.true)

peeked : (A : Type 0) (first : Option Text) (n : ℕ) (text : Text) (r : Option Text) →
    n ≤ length text → n ≤ 8 → first ≡ Some (take n text)
    → IfSome r (λ piece. piece ≡ take n text) → IfNone r (8 < length (take n text)) →
    MatchOption r A (λ piece. first ≡ Some piece)
peeked A first n text (Some piece) within few e short long = e ∙ ap Some (sym short)
peeked A first n text None within few e short long =
    absurd (omega (arith, long, few, length-take-le n text within))

pub returns : goal.returns
returns g c =
    let few = c.has_length.ensures.few c.if-not-has_length.false in
    let within = c.args.self.now.within few in
    peeked _ _ c.args.self.now.len c.args.self.now.text.now c.of.result within few
    (first_left c.args.self.now within) c.of.ensures.short c.of.ensures.long

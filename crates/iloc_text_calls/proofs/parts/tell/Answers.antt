-- The bytes of a plain text begin with its normal text.
use Rattle.std.proofs.Common.{subst, sym, take}
use Rattle.iloc_spec_grammar.specs.Syntax.{Text, languages}
use Rattle.iloc_normalize.specs.Modes.{IsNormalText}
use Rattle.iloc_text_calls.proofs.TellLemmas.{plain_front}
use Rattle.iloc_text_calls.proofs.parts.tell.Goals as goal

pub returns-in-Some : goal.returns-in-Some
returns-in-Some c =
    c.hand_out_part.ensures c.args.mode c.args.text.now
    (subst (λ (t : Text). IsNormalText languages c.args.mode c.args.text.now (take c.in-Some.plain.len t))
    (sym c.as_array.ensures) (plain_front c.args.mode c.args.text.now c.in-Some.plain c.in-Some.ensures))

-- What is handed out of a plain text is its normal text. Nothing is where the number names no mode, or there
-- is too little room.
use Rattle.std.proofs.Common.{refl, arith}
use Rattle.iloc_spec_grammar.specs.Values.{identifier_text}
use Rattle.iloc_pieces.specs.Plain.{value_of}
use Rattle.iloc_normalize.proofs.PlainAnswers.{plain_normal}
use Rattle.iloc_calls.specs.declared.status.Status.TheVariants.{BufferTooSmall}
use Rattle.iloc_calls.proofs.ByNumbers.{few_modes}
use Rattle.iloc_calls.proofs.HandedLemmas.{handed_out, withheld}
use Rattle.iloc_calls.proofs.answers.normalize_plain.Goals as goal
use Rattle.iloc_calls.proofs.answers.normalize_plain.Goals.{then-mode-gt2-via-then-mode-gt2, then-mode-gt2-via-else-mode-gt2+then-plain-buffer}

pub returns-then-mode-gt2 : goal.returns-then-mode-gt2
returns-then-mode-gt2 g c =
    elim c.then-mode-gt2.branch [
      | then-mode-gt2-via-then-mode-gt2 w ↦ record {
        known = λ m e. let few = few_modes m in absurd (omega (arith, few, e, w.if-mode-gt2.true));
        unknown = λ far. let told = c.withhold.ensures.unknown far in (told.0, (told.1, refl));
      }
      | then-mode-gt2-via-else-mode-gt2+then-plain-buffer w ↦ record {
        known = λ m e.
            let told = c.withhold.ensures.known w.if-mode-gt2.false in (
              BufferTooSmall,
              told.0,
              withheld m c.args.text.now c.in_ok-plain.plain c.args.buffer.now c.withhold.new.needed
                  c.in_ok-plain.ensures w.if-plain-buffer.true told.1,
            );
        unknown = λ far. absurd (omega (arith, far, w.if-mode-gt2.false));
      }
    ]

pub returns : goal.returns
returns g c = record {
  known = λ m e. (
    c.hand_out_fitting_plain.result,
    c.number.ensures,
    handed_out m c.args.text.now (identifier_text (value_of c.in_ok-plain.plain)) c.args.buffer.now
        c.hand_out_fitting_plain.new.buffer c.hand_out_fitting_plain.new.needed
        c.hand_out_fitting_plain.result
        (plain_normal m c.args.text.now c.in_ok-plain.plain c.in_ok-plain.ensures)
        c.hand_out_fitting_plain.ensures,
  );
  unknown = λ far. absurd (omega (arith, far, c.if-mode-gt2.false));
}

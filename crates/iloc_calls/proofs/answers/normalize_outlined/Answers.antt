-- What is handed out of a text that is answered is its normal text.
use Rattle.iloc_calls.proofs.HandedLemmas.{handed_out}
use Rattle.iloc_calls.proofs.answers.normalize_outlined.Goals as goal

pub returns-in-Normal : goal.returns-in-Normal
returns-in-Normal c = (
  c.hand_out_bytes.result,
  c.number.ensures,
  handed_out c.args.mode c.args.text.now c.in-Normal.normal.now c.args.buffer.now c.hand_out_bytes.new.buffer
      c.hand_out_bytes.new.needed c.hand_out_bytes.result
      c.in-Normal.ensures.answered c.hand_out_bytes.ensures,
)

use Rattle.std.proofs.Common.{arith, Some, None, sym, subst}
use Rattle.iloc_pieces.specs.Cursor.{piece_left}
use Rattle.iloc_faults.specs.declared.state.Stage.{Stage}
use Rattle.iloc_faults.specs.declared.state.Stage.TheVariants.{Script}
use Rattle.iloc_faults.specs.Next.{word_next}
use Rattle.iloc_faults.specs.States.{IsEarly, IsWordRead}
use Rattle.iloc_faults.proofs.StepReadings.{none_yet, script_read}
use Rattle.iloc_faults.proofs.identifier.read_word.Goals as goal

pub returns-then-is_script : goal.returns-then-is_script
returns-then-is_script g c vs h =
    let none = subst (λ (s : Stage). IsEarly s c.args.variants) c.in-Language.is c.requires.early in
    subst (λ (s : Stage).
    IsWordRead c.args.mode c.args.at
    (word_next c.args.mode s vs (piece_left c.args.at)) (Some (Script, None)))
    (sym c.in-Language.is)
    (grind (arith, script_read, none_yet))

pub returns-in-Region : goal.returns-in-Region
returns-in-Region g c vs h = grind arith

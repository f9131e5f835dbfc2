use Rattle.std.proofs.Common.{ℕ, take, sym, subst}
use Rattle.iloc_outline.specs.Outlines.{BeginsWithLanguage}
use Rattle.iloc_normalize.specs.declared.Mode.TheVariants.{Data}
use Rattle.iloc_normalize.proofs.leads.lead_of_data.Goals as goal

pub read_data-requires-clause-begins : goal.read_data-requires-clause-begins
read_data-requires-clause-begins c =
    subst (λ (m : ℕ). BeginsWithLanguage (take m c.args.text.bytes.now)) (sym c.len.ensures)
    (c.in-Outline.ensures Data)

pub returns-in_default : goal.returns-in_default
returns-in_default c = c.lead_of_language.ensures Data

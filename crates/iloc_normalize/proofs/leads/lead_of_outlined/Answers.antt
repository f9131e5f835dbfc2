use Rattle.iloc_normalize.proofs.leads.lead_of_outlined.Goals as goal

pub returns-in-None : goal.returns-in-None
returns-in-None c = c.lead_of_language.ensures c.args.mode

pub returns-in-Locale : goal.returns-in-Locale
returns-in-Locale c = c.lead_of_language-in-Locale.ensures c.args.mode

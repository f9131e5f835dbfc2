use Rattle.iloc_normalize.proofs.leads.read_lead.Goals as goal

pub returns-in-Langid : goal.returns-in-Langid
returns-in-Langid c = c.lead_of_language.ensures c.args.mode

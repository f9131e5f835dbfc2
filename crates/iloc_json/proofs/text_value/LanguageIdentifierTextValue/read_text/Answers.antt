use Rattle.iloc_json.proofs.text_value.LanguageIdentifierTextValue.read_text.Goals as goal

pub returns-clause-reads : goal.returns-clause-reads
returns-clause-reads g c = record {
  reads = c.try_from_str_in.ensures.reads;
  accepted = c.try_from_str_in.ensures.accepted;
  refused = c.try_from_str_in.ensures.refused;
  memory = c.try_from_str_in.ensures.memory;
}

use Rattle.iloc_data.proofs.data_locale.DataLocaleFromStr.from_str.Goals as goal

pub returns : goal.returns
returns c = record {
  reads = c.try_from_str.ensures.reads;
  accepted = c.try_from_str.ensures.accepted;
  refused = c.try_from_str.ensures.refused;
  memory = c.try_from_str.ensures.memory;
  back = c.try_from_str.ensures.back;
  converted = c.try_from_str.ensures.converted;
  meant = c.try_from_str.ensures.meant;
  narrow = c.try_from_str.ensures.narrow;
}

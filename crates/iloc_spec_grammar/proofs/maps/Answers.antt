-- From the laws of maps.
use Rattle.iloc_spec_grammar.proofs.MapLaws.{word_cmp_total, same_words, is_sorted-map_of, find-map_of, map_of_same, map_of_sorted}
use Rattle.iloc_spec_grammar.proofs.SetLaws.{map_of-first, map_of-last}
use Rattle.iloc_spec_grammar.proofs.maps.Goals as goal

pub returns : goal.returns
returns c = search (
  is_sorted-map_of,
  word_cmp_total,
  find-map_of,
  map_of_same,
  same_words,
  map_of_sorted,
  map_of-first,
  map_of-last,
)

use Rattle.iloc_keyword_types.specs.WordTables.{word_at, table_place}
use Rattle.iloc_keyword_types.proofs.TableLemmas.{first_by_word}
use Rattle.iloc_keyword_types.proofs.word_enum.find_word.Goals as goal

pub returns : goal.returns
unfolding table_place
returns g c = first_by_word (λ v. word_at g.E.WordEnum.words (g.E.WordEnum.place v)) g.E.WordEnum.place
    c.args.word.now c.all.result.now c.first_with_word.result _ c.first_with_word.ensures c.all.ensures

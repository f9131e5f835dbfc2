use Rattle.std.proofs.Common.{◌∙◌, ◌++◌, ap, ap₂, length, reverse, arith}
use Rattle.std.proofs.lemmas.Result.{on_ok_weaker}
use Rattle.iloc_spec_grammar.specs.Syntax.{word_cmp}
use Rattle.iloc_spec_grammar.specs.Meaning.{map_of}
use Rattle.iloc_spec_grammar.proofs.MapLaws.{word_cmp_total, same_words}
use Rattle.iloc_memory.proofs.Within.{refused_more}
use Rattle.iloc_litemap.proofs.Maps.{reversed_over}
use Rattle.iloc_unicode.proofs.keywords.Keywords.set_all.Goals as goal

pub returns-clause-ok : goal.returns-clause-ok
returns-clause-ok g c = on_ok_weaker c.extend_from_map_in.result (λ is. is
    ∙ ap₂ (λ fs es. map_of word_cmp (reverse fs ++ es)) c.other.view_is c.self.view_is
    ∙ reversed_over word_cmp word_cmp_total same_words c.args.self.now c.args.other
    c.as_slice.ensures.ascending) c.extend_from_map_in.ensures.ok

pub returns-clause-out_of_memory : goal.returns-clause-out_of_memory
returns-clause-out_of_memory g c =
    let others = ap length c.other.view_is in
    let own = ap length c.self.view_is in
    refused_more g.M.Memory.refused _ _ (omega (arith, others, own)) c.extend_from_map_in.result
    c.extend_from_map_in.ensures.out_of_memory

use Rattle.std.proofs.Common.{rules, sym, ap, ◌∙◌, [], ◌∷◌}
use Rattle.std.specs.FinMap.{put}
use Rattle.std.proofs.lemmas.List.{reverse-append}
use Rattle.iloc_spec_grammar.specs.Meaning.{map_of}
use Rattle.iloc_litemap.proofs.map.LiteMap.from_pairs.Goals as goal

pub loop-key-preserved : goal.loop-key-preserved
loop-key-preserved g c =
    record {
      can = search rules;
      finite = search rules;
      pairs = c.in_ok-put.ensures.ok
          ∙ (ap (put g.K.Ord.cmp c.in-Some.key c.in-Some.value) c.loop-key.invariant.pairs
          ∙ ap (map_of g.K.Ord.cmp)
          (sym (reverse-append c.loop-key.yielded ((c.in-Some.key, c.in-Some.value) ∷ []))));
    }

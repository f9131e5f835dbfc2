use Rattle.std.proofs.Common.{rules, arith, sym, ap, ◌∙◌, [], ◌∷◌, ◌++◌, length, length-append}
use Rattle.std.specs.FinMap.{put}
use Rattle.std.proofs.lemmas.List.{reverse-append}
use Rattle.iloc_spec_grammar.specs.Meaning.{map_of}
use Rattle.iloc_memory.proofs.Within.{within_more}
use Rattle.iloc_copying.proofs.Results.{on_err}
use Rattle.iloc_copying.proofs.Yielded.{one_more_yielded}
use Rattle.iloc_litemap.proofs.Maps.{put_one}
use Rattle.iloc_litemap.proofs.map.LiteMap.from_pairs_in.Goals as goal

pub loop-key-preserved : goal.loop-key-preserved
loop-key-preserved g c =
    let is = ap length c.in_ok-put_in.ensures.ok in
    let one = put_one g.K.Ord.cmp c.in-Some.key c.in-Some.value c.loop-key.map in
    let more = length-append c.loop-key.yielded ((c.in-Some.key, c.in-Some.value) ∷ []) in
    record {
      can = search rules;
      finite = search rules;
      pairs = c.in_ok-put_in.ensures.ok
          ∙ (ap (put g.K.Ord.cmp c.in-Some.key c.in-Some.value) c.loop-key.invariant.pairs
          ∙ ap (map_of g.K.Ord.cmp)
          (sym (reverse-append c.loop-key.yielded ((c.in-Some.key, c.in-Some.value) ∷ []))));
      few = omega (arith, is, one, more, c.loop-key.invariant.few);
    }

pub returns-in_err-put_in-clause-out_of_memory : goal.returns-in_err-put_in-clause-out_of_memory
returns-in_err-put_in-clause-out_of_memory g c =
    let one = length-append c.loop-key.yielded ((c.in-Some.key, c.in-Some.value) ∷ []) in
    on_err c.from_residual.result _ (
      c.into_iter-key-iterator.result,
      c.loop-key.yielded ++ (c.in-Some.key, c.in-Some.value) ∷ [],
      c.next.new.self,
      c.into_iter-key-iterator.ensures.into_iter_gives,
      one_more_yielded g.I.IntoIter.Iterator.next_gives _ _ c.loop-key.key-iterator
          (c.in-Some.key, c.in-Some.value) _ c.loop-key.yielded_by c.in-Some.ensures.steps,
      within_more g.M.Memory.refused _ _ (omega (arith, one, c.loop-key.invariant.few))
          c.in_err-put_in.ensures.out_of_memory,
    )

use Rattle.std.proofs.Common.{◌≡◌, rules, arith, Some, None, sym, ap, ◌∙◌, ap₂, subst, ◌++◌, length, reverse}
use Rattle.std.proofs.lemmas.List.{nil_from_length}
use Rattle.iloc_spec_grammar.specs.Meaning.{map_of}
use Rattle.iloc_spec_grammar.proofs.MapLaws.{map_of_sorted}
use Rattle.std.specs.Vec.Iter.{into_iter_items}
use Rattle.iloc_litemap.specs.Pairs.{HasAscendingKeys}
use Rattle.iloc_litemap.specs.VecStore.{vec_takes_first}
use Rattle.iloc_litemap.proofs.Maps.{put_all, put_all_over, put_next, put_last}
use Rattle.iloc_litemap.proofs.map.LiteMap.extend_from_vec.Goals as goal

pub returns-then-is_empty-clause-ok : goal.returns-then-is_empty-clause-ok
returns-then-is_empty-clause-ok g c =
    let none : length c.args.more.items ≡ 0 = search rules in
    sym (map_of_sorted g.K.Ord.cmp c.args.self.now c.as_slice.ensures.ascending)
    ∙ ap (λ xs. map_of g.K.Ord.cmp (reverse xs ++ c.args.self.now)) (sym (nil_from_length _ none))

pub loop-key-init : goal.loop-key-init
loop-key-init g c =
    let left : into_iter_items c.into_iter-key-iterator.result ≡ c.args.more.items = search rules in
    record {
      can = search rules;
      finite = search rules;
      ascending = search rules;
      pairs = ap₂ (put_all g.K.Ord.cmp) c.in_ok-all.ensures.pairs left
          ∙ put_all_over g.K.Ord.cmp c.args.self.now c.args.more.items c.as_slice.ensures.ascending;
      room = search rules;
    }

pub put_within-requires-clause-room : goal.put_within-requires-clause-room
put_within-requires-clause-room g c =
    let first = ap length (vec_takes_first c.loop-key.key-iterator (Some (c.in-Some.key, c.in-Some.value))
    c.next.new.self c.in-Some.ensures.steps) in
    omega (arith, c.loop-key.invariant.room)

pub loop-key-preserved : goal.loop-key-preserved
loop-key-preserved g c =
    let first = vec_takes_first c.loop-key.key-iterator (Some (c.in-Some.key, c.in-Some.value))
    c.next.new.self c.in-Some.ensures.steps in
    let count = ap length first in
    record {
      can = search rules;
      finite = search rules;
      ascending = c.put_within.ensures.ascending;
      pairs = put_next g.K.Ord.cmp _ _ _ _ _ _ _ c.put_within.ensures.pairs first c.loop-key.invariant.pairs;
      room = omega (
        arith,
        c.put_within.ensures.len,
        c.put_within.ensures.capacity,
        c.loop-key.invariant.room,
      );
    }

pub invariant_of-self : goal.invariant_of-self
invariant_of-self g c = subst (HasAscendingKeys g.K.Ord.cmp) (sym c.lm_from_vec.ensures)
    c.loop-key.invariant.ascending

pub returns-clause-ok : goal.returns-clause-ok
returns-clause-ok g c =
    let none = vec_takes_first c.loop-key.key-iterator None c.next.new.self c.in-None.ensures.steps in
    c.lm_from_vec.ensures ∙ put_last g.K.Ord.cmp _ _ _ none.0 c.loop-key.invariant.pairs

use Rattle.std.proofs.Common.{sym, ap, ◌∙◌, Some, is_some, true≢false}
use Rattle.iloc_litemap.specs.Pairs.{set_value_at}
use Rattle.iloc_litemap.proofs.Edits.{edited, held_value, put_made}
use Rattle.iloc_litemap.proofs.map.LiteMap.insert_in.Goals as goal

pub returns-in-Ok-clause-ok : goal.returns-in-Ok-clause-ok
returns-in-Ok-clause-ok g c =
    let stored = g.met.S.Store.pairs_with_value c.self.inside.store c.in-Ok.at c.replace.new.dest
    ∙ ap (set_value_at (g.S.Store.pairs c.self.inside.store) c.in-Ok.at) c.replace.ensures.after in
    (put_made g.met.K.Ord.total c.args.key c.place.ensures.ascending c.in-Ok.ensures.place c.self.view_is
    c.args.value stored).0

pub invariant_of-self : goal.invariant_of-self
invariant_of-self g c =
    let stored = g.met.S.Store.pairs_with_value c.self.inside.store c.in-Ok.at c.replace.new.dest
    ∙ ap (set_value_at (g.S.Store.pairs c.self.inside.store) c.in-Ok.at) c.replace.ensures.after in
    (put_made g.met.K.Ord.total c.args.key c.place.ensures.ascending c.in-Ok.ensures.place c.self.view_is
    c.args.value stored).1

pub returns-in-Ok-clause-before : goal.returns-in-Ok-clause-before
returns-in-Ok-clause-before g c =
    let at =
    edited g.met.K.Ord.total c.args.key c.args.self.now c.place.ensures.ascending c.in-Ok.ensures.place in
    ap Some c.replace.ensures.value
    ∙ held_value _ _ c.args.self.now _ _ _ at c.self.view_is c.in-Ok.ensures.bound
    c.lm_value_mut.ensures.value

pub returns-in_ok-lm_insert_in-in-Err-clause-ok :
    goal.returns-in_ok-lm_insert_in-in-Err-clause-ok
returns-in_ok-lm_insert_in-in-Err-clause-ok g c =
    (put_made g.met.K.Ord.total c.args.key c.place.ensures.ascending c.in-Err.ensures.place c.self.view_is
    c.args.value c.in_ok-lm_insert_in-in-Err.ensures.ok).0

pub invariant_of-self-in-Err : goal.invariant_of-self-in-Err
invariant_of-self-in-Err g c = (put_made g.met.K.Ord.total c.args.key c.place.ensures.ascending
    c.in-Err.ensures.place c.self.view_is c.args.value c.in_ok-lm_insert_in-in-Err.ensures.ok).1

pub returns-in_ok-lm_insert_in-in-Err-clause-before :
    goal.returns-in_ok-lm_insert_in-in-Err-clause-before
returns-in_ok-lm_insert_in-in-Err-clause-before g c =
    sym (edited g.met.K.Ord.total c.args.key c.args.self.now c.place.ensures.ascending
    c.in-Err.ensures.place).value

-- a key that is there needs no memory, and this one isn't
pub returns-in_err-lm_insert_in-in-Err-clause-keeps : goal.returns-in_err-lm_insert_in-in-Err-clause-keeps
returns-in_err-lm_insert_in-in-Err-clause-keeps g c there =
    let gap =
    edited g.met.K.Ord.total c.args.key c.args.self.now c.place.ensures.ascending c.in-Err.ensures.place in
    absurd (true≢false (sym there ∙ ap is_some gap.value))

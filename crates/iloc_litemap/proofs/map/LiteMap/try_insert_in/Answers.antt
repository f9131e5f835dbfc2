use Rattle.std.proofs.Common.{sym, ap, refl, ◌∙◌, is_some, true≢false}
use Rattle.iloc_litemap.proofs.Edits.{edited, put_made, found_some}
use Rattle.iloc_litemap.proofs.map.LiteMap.try_insert_in.Goals as goal

pub returns-in-Ok-clause-occupied : goal.returns-in-Ok-clause-occupied
returns-in-Ok-clause-occupied g c =
    let at =
    edited g.met.K.Ord.total c.args.key c.args.self.now c.place.ensures.ascending c.in-Ok.ensures.place in
    rw (found_some _ _ _ _ at c.in-Ok.ensures.bound) refl

pub returns-in-Ok-clause-ok : goal.returns-in-Ok-clause-ok
returns-in-Ok-clause-ok g c =
    let at =
    edited g.met.K.Ord.total c.args.key c.args.self.now c.place.ensures.ascending c.in-Ok.ensures.place in
    rw (found_some _ _ _ _ at c.in-Ok.ensures.bound) refl

pub invariant_of-self-2 : goal.invariant_of-self-2
invariant_of-self-2 g c = (put_made g.met.K.Ord.total c.args.key c.place.ensures.ascending
    c.in-Err.ensures.place c.self.view_is c.args.value c.in_ok-lm_insert_in.ensures.ok).1

pub returns-clause-occupied :
    goal.returns-clause-occupied
returns-clause-occupied g c =
    rw
    (edited g.met.K.Ord.total c.args.key c.args.self.now c.place.ensures.ascending
    c.in-Err.ensures.place).value refl

pub returns-clause-ok : goal.returns-clause-ok
returns-clause-ok g c =
    rw (edited g.met.K.Ord.total c.args.key c.args.self.now c.place.ensures.ascending
    c.in-Err.ensures.place).value
    (put_made g.met.K.Ord.total c.args.key c.place.ensures.ascending c.in-Err.ensures.place c.self.view_is
    c.args.value c.in_ok-lm_insert_in.ensures.ok).0

-- a key that is there needs no memory, and this one isn't
pub returns-in_err-lm_insert_in-clause-keeps :
    goal.returns-in_err-lm_insert_in-clause-keeps
returns-in_err-lm_insert_in-clause-keeps g c there =
    let gap =
    edited g.met.K.Ord.total c.args.key c.args.self.now c.place.ensures.ascending c.in-Err.ensures.place in
    absurd (true≢false (sym there ∙ ap is_some gap.value))

use Rattle.std.proofs.Common.{◌≡◌, insert, OnOk, OnErr, ap, ◌∙◌, subst, arith}
use Rattle.iloc_shortvec.specs.Kept.{items_of}
use Rattle.iloc_shortvec.proofs.short_words.ShortWords.insert_in.Goals as goal

pub invariant_of-self : goal.invariant_of-self
invariant_of-self g c = c.insert_short.ensures.kept

pub returns-then-len-lt4-clause-ok : goal.returns-then-len-lt4-clause-ok
returns-then-len-lt4-clause-ok g c = c.insert_short.ensures.items
    ∙ ap (λ xs. insert xs c.args.index c.args.item) c.self.view_is

pub invariant_of-self-2 : goal.invariant_of-self-2
invariant_of-self-2 g c = c.insert_long.ensures.kept

pub returns-clause-ok : goal.returns-clause-ok
returns-clause-ok g c =
    subst (λ xs. OnOk c.insert_long.result
    (items_of c.insert_long.new.self ≡ insert xs c.args.index c.args.item)) c.self.view_is
    c.insert_long.ensures.ok

pub returns-clause-err : goal.returns-clause-err
returns-clause-err g c =
    subst (λ xs. OnErr c.insert_long.result (items_of c.insert_long.new.self ≡ xs)) c.self.view_is
    c.insert_long.ensures.err

pub returns-clause-succeeds : goal.returns-clause-succeeds
returns-clause-succeeds g c few = absurd (omega arith)

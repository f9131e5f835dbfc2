use Rattle.std.proofs.Common.{arith}
use Rattle.iloc_spans.proofs.Shifting.{moved_one, put_front, put_back}
use Rattle.iloc_spans.proofs.inserting.insert_at.Goals as goal

pub moved-preserved : goal.moved-preserved
moved-preserved c =
    let h = c.moved.invariant in
    record {
      from = omega (arith, c.moved-test.true);
      within = omega (arith, h.within);
      list = moved_one c.args.list.now c.args.at c.args.made c.moved.from _ c.moved.list h.from h.within
          (omega arith) h.list (omega (arith, c.moved-test.true));
    }

pub returns-clause-front : goal.returns-clause-front
returns-clause-front c =
    let h = c.moved.invariant in
    put_front c.args.list.now c.args.at c.args.made c.moved.from c.args.span c.moved.list h.from h.within
    (omega arith) h.list c.args.span (omega (arith, c.moved-test.false))

pub returns-clause-back : goal.returns-clause-back
returns-clause-back c =
    let h = c.moved.invariant in
    put_back c.args.list.now c.args.at c.args.made c.moved.from c.args.span c.moved.list h.from h.within
    (omega arith) h.list c.args.span (omega (arith, c.moved-test.false))

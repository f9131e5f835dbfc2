use Rattle.std.proofs.Common.{◌∙◌, arith, length, sym, ap, map, Result, Ok, Err}
use Rattle.std.proofs.Math.ListN.{length-map}
use Rattle.std.specs.Prelude.{OnOk, OnErr}
use Rattle.std.specs.BTreeMap.{insert_entry}
use Rattle.std.specs.Ordering.{nat_cmp}
use Rattle.iloc_spans.specs.declared.span.Span.{Span}
use Rattle.iloc_spans.proofs.GroupPuts.{each_keyed, grouped_put, grouped_there, inserted_few, keyed_each, keyed_put}
use Rattle.iloc_spans.proofs.group.Group.put.Goals as goal

either : {A B : Type 0} {P Q R : Type 0} (r : Result A B) → OnOk r P → OnErr r Q → (P → R) → (Q → R) → R
either (Ok a) p q f g = f p
either (Err b) p q f g = g q

pub returns-then-contains_key-clause-put : goal.returns-then-contains_key-clause-put
returns-then-contains_key-clause-put g c = λ ss is.
    let g = c.args.self.now in
    grouped_there (λ s. s.word) g.tree.entries (keyed_each (λ s. s.word) g.tree.entries g.keyed) ss is
    c.args.span (sym c.contains_key.ensures ∙ c.if-contains_key.true)

pub invariant_of-self : goal.invariant_of-self
invariant_of-self g c =
    let g = c.args.self.now in
    let es = g.tree.entries in
    let word = λ (s : Span). s.word in
    let more = each_keyed word (insert_entry nat_cmp es c.args.span.word c.args.span)
    (keyed_put word c.args.span es (keyed_each word es g.keyed)) in
    record {
      keyed = either c.insert_in_tree.result c.insert_in_tree.ensures.ok c.insert_in_tree.ensures.err
          (λ is. ap (map (λ e. e.0)) is ∙ more ∙ sym (ap (map (λ e. e.1.word)) is))
          (λ is. ap (map (λ e. e.0)) is ∙ g.keyed ∙ sym (ap (map (λ e. e.1.word)) is));
    }

pub returns-in-Ok-clause-put : goal.returns-in-Ok-clause-put
returns-in-Ok-clause-put g c = λ ss is.
    let g = c.args.self.now in
    let put = grouped_put (λ s. s.word) g.tree.entries (keyed_each (λ s. s.word) g.tree.entries g.keyed) ss is
    c.args.span (sym c.contains_key.ensures ∙ c.if-contains_key.false) in
    (ap (map (λ e. e.1)) c.in-Ok.ensures.ok ∙ put.0, put.1)

pub returns-in-Ok-clause-few : goal.returns-in-Ok-clause-few
returns-in-Ok-clause-few g c =
    let old = c.args.self.now.tree.entries in
    let new = c.insert_in_tree.new.map.entries in
    omega (
      arith,
      length-map new (λ e. e.1),
      length-map old (λ e. e.1),
      ap length c.in-Ok.ensures.ok,
      inserted_few c.args.span.word c.args.span old,
    )

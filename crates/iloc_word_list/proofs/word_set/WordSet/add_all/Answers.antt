use Rattle.std.proofs.Common.{◌≡◌, ◌∷◌, ◌++◌, ◌∙◌, sym, ap, subst, arith}
use Rattle.iloc_spec_grammar.specs.Meaning.{set_of}
use Rattle.iloc_spec_grammar.specs.Syntax.{word_cmp}
use Rattle.iloc_spec_grammar.specs.Values.{StrictlyAscends}
use Rattle.iloc_spec_grammar.proofs.SetLaws.{length-set_of}
use Rattle.iloc_spec_grammar.proofs.WellRead.{set_of-ascending}
use Rattle.iloc_word_list.proofs.SetLaws.{union_next, union_done}
use Rattle.iloc_word_list.proofs.word_set.WordSet.add_all.Goals as goal

pub loop-word-preserved : goal.loop-word-preserved
loop-word-preserved g c =
    let same = c.in_ok-clone.ensures.cases in
    let is : c.push_in.new.self ≡ set_of (c.word-item.result ∷ c.loop-word.self) =
    c.in_ok-push_in.ensures.ok ∙ ap (λ w. set_of (w ∷ c.loop-word.self)) (sym same.3 ∙ same.4.0 ∙ same.2) in
    record {
      set = union_next c.word-item.result c.loop-word.self c.as_slice-word-items.result.now
          c.push_in.new.self _ c.loop-word.word-index c.loop-word-test.true c.word-item.is is
          c.loop-word.invariant.set;
      ascending = subst (StrictlyAscends word_cmp) (sym is)
          (set_of-ascending (c.word-item.result ∷ c.loop-word.self));
      short = rw is
          (omega (arith, length-set_of (c.word-item.result ∷ c.loop-word.self), c.loop-word.invariant.short));
    }

pub returns-clause-ok : goal.returns-clause-ok
returns-clause-ok g c =
    union_done c.loop-word.self c.as_slice-word-items.result.now (c.args.self.now ++ c.args.other.now)
    c.loop-word.word-index c.loop-word-test.false c.loop-word.invariant.ascending c.loop-word.invariant.set

use Rattle.std.proofs.Common.{◌≡◌, ◌≤◌, ◌+◌, ℕ, List, [], ◌∷◌, ◌++◌, length, take, true, false, Result, Ok, Err, OnOk, OnErr, rules, sym, ap, ap₂, ◌∙◌, arith, append_assoc, append-nil, length-append}
use Rattle.std.specs.Result.{is_err}
use Rattle.std.proofs.Math.Seq.{take-append_seam}
use Rattle.iloc_memory.proofs.Within.{within_more}
use Rattle.iloc_copying.proofs.Yielded.{one_more_yielded}
use Rattle.iloc_word_list.proofs.value.Value.extend_in.Goals as goal

-- what is said of each result, of one that is known
at_ok : {A E P : Type 0} (r : Result A E) → is_err r ≡ false → OnOk r P → P
at_ok (Ok x) h p = p
at_ok (Err e) h p = cc

at_err : {A E P : Type 0} (r : Result A E) → is_err r ≡ true → OnErr r P → P
at_err (Ok x) h p = cc
at_err (Err e) h p = p

module _ {X : Type 0} (first later inside now new : List X) (view : inside ≡ now)
    (h : now ≡ first ++ later) where
  one_more : (x : X) → new ≡ inside ++ x ∷ [] → new ≡ first ++ (later ++ x ∷ [])
  one_more x n = n ∙ (ap (λ l. l ++ x ∷ []) (view ∙ h) ∙ append_assoc first later (x ∷ []))

  at_least : new ≡ inside → length first ≤ length new
  at_least n =
      let l : length new ≡ length (first ++ later) = ap length (n ∙ (view ∙ h)) in
      omega (arith, length-append first later)

  cut_back : (count : ℕ) → count ≡ length first → new ≡ inside → take count new ≡ first
  cut_back count c n = ap₂ (λ k l. take k l) c (n ∙ (view ∙ h)) ∙ take-append_seam first later

room : {X : Type 0} (first later inside now : List X) → inside ≡ now → now ≡ first ++ later → (x : X) →
    length inside + 1 ≤ length first + length (later ++ x ∷ [])
room first later inside now view h x =
    let l : length inside ≡ length (first ++ later) = ap length (view ∙ h) in
    omega (arith, l, length-append first later, length-append later (x ∷ []))

pub loop-subtag-init : goal.loop-subtag-init
loop-subtag-init g c =
    let ready = c.requires _ c.into_iter-subtag-iterator.ensures.into_iter_gives in
    (ready.0, ready.1, sym (append-nil c.args.self.now), c.subtag_count-before.ensures)

pub loop-subtag-preserved : goal.loop-subtag-preserved
loop-subtag-preserved g c =
    let pushed = at_ok c.push_in.result (sym c.is_err.ensures.value ∙ c.if-is_err.false)
    c.push_in.ensures.ok in (
      search rules,
      search rules,
      one_more c.args.self.now c.loop-subtag.yielded _ c.loop-subtag.self _
          c.self-in-loop-subtag.view_is c.loop-subtag.invariant.2 c.in-Some.subtag pushed,
      c.loop-subtag.invariant.3,
    )

pub cut-requires : goal.cut-requires
cut-requires g c =
    let same = at_err c.push_in.result (sym c.is_err.ensures.value ∙ c.if-is_err.true)
    c.push_in.ensures.err in
    let fits = at_least c.args.self.now c.loop-subtag.yielded _ c.loop-subtag.self _
    c.self-in-loop-subtag.view_is c.loop-subtag.invariant.2 same in
    omega (arith, fits, c.loop-subtag.invariant.3)

pub returns-clause-ok : goal.returns-clause-ok
returns-clause-ok g c = (
  c.into_iter-subtag-iterator.result,
  c.loop-subtag.yielded,
  c.into_iter-subtag-iterator.ensures.into_iter_gives,
  (
    c.next.new.self,
    (
      c.loop-subtag.subtag-iterator,
      c.loop-subtag.yielded_by,
      c.in-None.ensures.steps,
    ),
  ),
  c.loop-subtag.invariant.2,
)

pub returns-then-is_err-clause-err : goal.returns-then-is_err-clause-err
returns-then-is_err-clause-err g c =
    let same = at_err c.push_in.result (sym c.is_err.ensures.value ∙ c.if-is_err.true)
    c.push_in.ensures.err in
    c.cut.ensures ∙ cut_back c.args.self.now c.loop-subtag.yielded _ c.loop-subtag.self _
    c.self-in-loop-subtag.view_is c.loop-subtag.invariant.2 _ c.loop-subtag.invariant.3 same

pub returns-then-is_err-clause-out_of_memory : goal.returns-then-is_err-clause-out_of_memory
returns-then-is_err-clause-out_of_memory g c =
    let refused = at_err c.push_in.result (sym c.is_err.ensures.value ∙ c.if-is_err.true)
    c.push_in.ensures.out_of_memory in
    let fits = room c.args.self.now c.loop-subtag.yielded _ c.loop-subtag.self c.self-in-loop-subtag.view_is
    c.loop-subtag.invariant.2 c.in-Some.subtag in (
      c.into_iter-subtag-iterator.result,
      c.loop-subtag.yielded ++ c.in-Some.subtag ∷ [],
      c.next.new.self,
      c.into_iter-subtag-iterator.ensures.into_iter_gives,
      one_more_yielded g.I.IntoIter.Iterator.next_gives _ _ c.loop-subtag.subtag-iterator c.in-Some.subtag _
          c.loop-subtag.yielded_by c.in-Some.ensures.steps,
      within_more g.M.Memory.refused _ _ fits refused,
    )

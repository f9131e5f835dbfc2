-- A piece of an input, line by line.
use Rattle.std.proofs.Common.{◌≡◌, ◌≢◌, ℕ, ◌+◌, ◌<◌, List, [], ◌∷◌, ◌++◌, length, refl, sym, ap, ◌∙◌, subst, arith, append_assoc, append-nil, length-append}
use Rattle.std.specs.Prelude.{Result, Ok, Err, OnOk, IfOk}
use Rattle.std.proofs.lemmas.List.Elements.{All-nil, All-append}
use Rattle.iloc_program.specs.Lines.{lines_of, ended, IsOneLine}
use Rattle.iloc_program.proofs.LineCuts.{lines_of-last}
use Rattle.iloc_program.specs.Numbered.{AddsText, AreEntries}
use Rattle.iloc_program.specs.Feeding.{Feeds, Ends}
use Rattle.iloc_program.proofs.LineEntries.{AreEntries-append, AreEntries-one, ended-append, AllByRecursion-append}
use Rattle.iloc_spec_grammar.specs.Syntax.{Text}

module _ (IsEntry : ℕ → Text → Text → Type 0) (n : ℕ) (pending : Text) (old : Text) where
  -- a line that ends
  pub Feeds-line : (taken line mid new pending' pending2 : Text) (next next2 : ℕ) →
      Feeds IsEntry n pending taken old mid pending' next
      → IsOneLine line → AddsText (IsEntry next (pending' ++ line)) mid new → next2 ≡ next + 1 → pending2 ≡ []
      → Feeds IsEntry n pending (taken ++ (line ++ 10 ∷ [])) old new pending2 next2
  Feeds-line taken line mid new pending' pending2 next next2 f one (entry, is, added) e none =
      let whole = pending' ++ line in
      let here : AreEntries IsEntry (n + length f.lines) (whole ∷ []) entry =
      subst (λ (k : ℕ). AreEntries IsEntry k (whole ∷ []) entry) f.counts
      (AreEntries-one IsEntry next whole entry is) in
      record {
        lines = f.lines ++ whole ∷ [];
        added = f.added ++ entry;
        are_lines = AllByRecursion-append IsOneLine f.lines (whole ∷ []) f.are_lines
            (All-append (λ c. c ≢ 10) pending' line f.one_line one, tt);
        one_line = subst IsOneLine (sym none) (All-nil (λ c. c ≢ 10));
        cut = sym (append_assoc pending taken (line ++ 10 ∷ []))
            ∙ ap (λ (t : Text). t ++ (line ++ 10 ∷ [])) f.cut
            ∙ regrouped (ended f.lines) pending' line
            ∙ sym (ap (λ (t : Text). ended (f.lines ++ whole ∷ []) ++ t) none
            ∙ append-nil (ended (f.lines ++ whole ∷ [])) ∙ ended-append f.lines (whole ∷ []));
        are_entries = AreEntries-append IsEntry n f.lines (whole ∷ []) f.added entry f.are_entries here;
        adds = added ∙ ap (λ (t : Text). t ++ entry) f.adds ∙ append_assoc old f.added entry;
        counts = omega (arith, e, f.counts, length-append f.lines (whole ∷ []));
      }
    where
      regrouped : (a b c : Text) → (a ++ b) ++ (c ++ 10 ∷ []) ≡ a ++ (((b ++ c) ++ 10 ∷ []) ++ [])
      regrouped a b c = rw (append-nil ((b ++ c) ++ 10 ∷ [])) (simp append_assoc)

  -- no line ended
  pub Feeds-open : (piece pending' : Text) → IsOneLine pending → IsOneLine piece →
      pending' ≡ pending ++ piece → Feeds IsEntry n pending piece old old pending' n
  Feeds-open piece pending' one more e = record {
    lines = [];
    added = [];
    are_lines = tt;
    one_line = subst IsOneLine (sym e) (All-append (λ c. c ≢ 10) pending piece one more);
    cut = sym e;
    are_entries = refl;
    adds = sym (append-nil old);
    counts = omega arith;
  }

  -- what is fed behind them
  pub Feeds-both : (taken later mid new middle pending' : Text) (next next' : ℕ) →
      Feeds IsEntry n pending taken old mid middle next
      → Feeds IsEntry next middle later mid new pending' next'
      → Feeds IsEntry n pending (taken ++ later) old new pending' next'
  Feeds-both taken later mid new middle pending' next next' f g =
      let there : AreEntries IsEntry (n + length f.lines) g.lines g.added =
      subst (λ (k : ℕ). AreEntries IsEntry k g.lines g.added) f.counts g.are_entries in
      record {
        lines = f.lines ++ g.lines;
        added = f.added ++ g.added;
        are_lines = AllByRecursion-append IsOneLine f.lines g.lines f.are_lines g.are_lines;
        one_line = g.one_line;
        cut = sym (append_assoc pending taken later) ∙ ap (λ (t : Text). t ++ later) f.cut
            ∙ append_assoc (ended f.lines) middle later
            ∙ ap (λ (t : Text). ended f.lines ++ t) g.cut
            ∙ sym (append_assoc (ended f.lines) (ended g.lines) pending')
            ∙ ap (λ (t : Text). t ++ pending') (sym (ended-append f.lines g.lines));
        are_entries = AreEntries-append IsEntry n f.lines g.lines f.added g.added f.are_entries there;
        adds = g.adds ∙ ap (λ (t : Text). t ++ g.added) f.adds ∙ append_assoc old f.added g.added;
        counts = omega (arith, f.counts, g.counts, length-append f.lines g.lines);
      }

-- a line and its newline were taken too
pub taken_with : (piece taken rest line later next : Text) → piece ≡ taken ++ rest →
    rest ≡ line ++ 10 ∷ later → next ≡ later → piece ≡ (taken ++ (line ++ 10 ∷ [])) ++ next
taken_with piece taken rest line later next a b c =
    a ∙ ap (λ (t : Text). taken ++ t) b ∙ regrouped taken line later
    ∙ ap (λ (t : Text). (taken ++ (line ++ 10 ∷ [])) ++ t) (sym c)
  where
    regrouped : (x y z : Text) → x ++ (y ++ 10 ∷ z) ≡ (x ++ (y ++ 10 ∷ [])) ++ z
    regrouped x y z = simp append_assoc

-- the last line, if it is empty or not

pub Ends-line : (IsEntry : ℕ → Text → Text → Type 0) (n : ℕ) (pending old new : Text) (next : ℕ) →
    IsOneLine pending → 0 < length pending
    → AddsText (IsEntry n (pending ++ [])) old new → next ≡ n + 1 → Ends IsEntry n pending old new next
Ends-line IsEntry n [] old new next one some a e = absurd (omega (arith, some))
Ends-line IsEntry n (c ∷ pending) old new next one some (entry, is, added) e =
    let line = c ∷ pending in
    let cut : lines_of line ≡ line ∷ [] = lines_of-last c pending one in
    let whole : IsEntry n line entry = subst (λ (t : Text). IsEntry n t entry) (append-nil line) is in
    record {
      added = entry;
      is_listing = subst (λ (ls : List Text). AreEntries IsEntry n ls entry) (sym cut)
          (AreEntries-one IsEntry n line entry whole);
      adds = added;
      counts = e ∙ ap (λ (ls : List Text). n + length ls) (sym cut);
    }

-- How a run stands after each of its steps.
use Rattle.std.proofs.Common.{◌≡◌, ℕ, ◌+◌, List, [], ◌++◌, take, drop, length, Option, refl, sym, ap, ◌∙◌, subst, arith, append_assoc, append-nil, length-append}
use Rattle.std.specs.List.{AllByRecursion}
use Rattle.std.proofs.lemmas.List.{take-append-drop}
use Rattle.std.proofs.Math.Seq.{take-append_seam}
use Rattle.std.specs.Io.{StartsWith}
use Rattle.std.specs.Io.KnownBytes.{Appends, Consumes, IsAtEnd, Keeps}
use Rattle.iloc_writeable.specs.GrowthLaws.{appends_nothing, appends_both}
use Rattle.iloc_program.specs.Lines.{lines_of, ended, IsOneLine}
use Rattle.iloc_program.proofs.KnownLemmas.{Consumes-kept, Consumes-nothing, Consumes-then, IfSome-all, at_end}
use Rattle.iloc_program.specs.Numbered.{AreEntries, IsListing, BeginsListing, ListsAll, ListsBeginning}
use Rattle.iloc_program.specs.Feeding.{Feeds, Ends}
use Rattle.iloc_program.proofs.LineEntries.{AreEntries-append, lines_of-ended, ended-append, AllByRecursion-append}
use Rattle.iloc_spec_grammar.specs.Syntax.{Text}

-- what was read is lines that ended, of which these are the entries, and what is pending
pub record Done (IsEntry : ℕ → Text → Text → Type 0) (n : ℕ) (read entries pending : Text) (next : ℕ) :
    Type 0 where
  pub lines : List Text
  pub are_lines : AllByRecursion IsOneLine lines
  pub cut : read ≡ ended lines ++ pending
  pub are_entries : AreEntries IsEntry n lines entries
  pub counts : next ≡ n + length lines

-- the entries of the lines that were read were written
pub record Stands (IsEntry : ℕ → Text → Text → Type 0) (n : ℕ)
    (unread unread' held held' : Option Text) (pending : Text) (next : ℕ) : Type 0 where
  pub read : Text
  pub written : Text
  pub reads : Consumes unread unread' read
  pub writes : Appends held held' written
  pub done : Done IsEntry n read written pending next

StartsWith-itself : (t : Text) → StartsWith t t
StartsWith-itself t = subst (λ (u : Text). StartsWith u t) (append-nil t) (take-append_seam t [])

-- what begins a text, behind what stands before it
StartsWith-behind : (before whole part : Text) → StartsWith whole part →
    StartsWith (before ++ whole) (before ++ part)
StartsWith-behind before whole part h =
    let split : whole ≡ part ++ drop (length part) whole =
    sym (take-append-drop (length part) whole) ∙ ap (λ (t : Text). t ++ drop (length part) whole) h in
    let joined : before ++ whole ≡ (before ++ part) ++ drop (length part) whole =
    ap (λ (t : Text). before ++ t) split ∙ sym (append_assoc before part (drop (length part) whole)) in
    rw joined (take-append_seam (before ++ part) (drop (length part) whole))

module _ (IsEntry : ℕ → Text → Text → Type 0) (n : ℕ) where
  Done-read : (read entries pending piece : Text) (next : ℕ) → Done IsEntry n read entries pending next →
      Done IsEntry n (read ++ piece) entries (pending ++ piece) next
  Done-read read entries pending piece next d = record {
    lines = d.lines;
    are_lines = d.are_lines;
    cut = ap (λ (t : Text). t ++ piece) d.cut ∙ append_assoc (ended d.lines) pending piece;
    are_entries = d.are_entries;
    counts = d.counts;
  }

  Done-fed : (read entries pending piece old new pending' : Text) (next next' : ℕ) →
      Done IsEntry n read entries (pending ++ piece) next
      → Feeds IsEntry next pending piece old new pending' next' → old ≡ [] →
      Done IsEntry n read (entries ++ new) pending' next'
  Done-fed read entries pending piece old new pending' next next' d f none =
      let new_is : f.added ≡ new = sym (f.adds ∙ ap (λ (t : Text). t ++ f.added) none) in
      let entries_are : AreEntries IsEntry (n + length d.lines) f.lines f.added =
      subst (λ (m : ℕ). AreEntries IsEntry m f.lines f.added) d.counts f.are_entries in
      record {
        lines = d.lines ++ f.lines;
        are_lines = AllByRecursion-append IsOneLine d.lines f.lines d.are_lines f.are_lines;
        cut = d.cut ∙ ap (λ (t : Text). ended d.lines ++ t) f.cut
            ∙ sym (append_assoc (ended d.lines) (ended f.lines) pending')
            ∙ ap (λ (t : Text). t ++ pending') (sym (ended-append d.lines f.lines));
        are_entries = AreEntries-append IsEntry n d.lines f.lines entries new d.are_entries
            (subst (AreEntries IsEntry (n + length d.lines) f.lines) new_is entries_are);
        counts = omega (arith, d.counts, f.counts, length-append d.lines f.lines);
      }

  -- the lines that ended are the first ones, whatever comes next
  first_lines : (read entries pending : Text) (next : ℕ) → (d : Done IsEntry n read entries pending next) →
      (left : Text)
      → lines_of (read ++ left) ≡ d.lines ++ lines_of (pending ++ left)
  first_lines read entries pending next d left =
      ap lines_of (ap (λ (t : Text). t ++ left) d.cut ∙ append_assoc (ended d.lines) pending left)
      ∙ lines_of-ended d.lines (pending ++ left) d.are_lines

  -- what begins their entries begins the listing
  begins : (read entries pending part : Text) (next : ℕ) → (d : Done IsEntry n read entries pending next) →
      StartsWith entries part → (left : Text)
      → BeginsListing IsEntry n (read ++ left) part
  begins read entries pending part next d b left = record {
    lines = d.lines;
    later = lines_of (pending ++ left);
    entries = entries;
    are_first = first_lines read entries pending next d left;
    are_entries = d.are_entries;
    begins = b;
  }

  -- a beginning was written
  begun : (u u' h h' : Option Text) (read entries pending part : Text) (next : ℕ) → Consumes u u' read →
      Appends h h' part
      → Done IsEntry n read entries pending next → StartsWith entries part →
      ListsBeginning IsEntry n u u' h h'
  begun u u' h h' read entries pending part next r w d b = record {
    read = read;
    written = part;
    reads = r;
    writes = w;
    begins = subst (λ (t : Text). BeginsListing IsEntry n t part) (append-nil read)
        (begins read entries pending part next d b []);
    begins_all = IfSome-all u' (λ left. BeginsListing IsEntry n (read ++ left) part)
        (begins read entries pending part next d b);
  }

  -- before the first read
  pub Stands-first : (u h : Option Text) → Stands IsEntry n u u h h [] n
  Stands-first u h = record {
    read = [];
    written = [];
    reads = Consumes-nothing u;
    writes = appends_nothing h;
    done = record { lines = []; are_lines = tt; cut = refl; are_entries = refl; counts = omega arith };
  }

  pub Stands-kept : (u u' u2 h h' : Option Text) (pending : Text) (next : ℕ) →
      Stands IsEntry n u u' h h' pending next → Keeps u' u2
      → Stands IsEntry n u u2 h h' pending next
  Stands-kept u u' u2 h h' pending next s k = record {
    read = s.read;
    written = s.written;
    reads = Consumes-kept u u' u2 s.read s.reads k;
    writes = s.writes;
    done = s.done;
  }

  pub Stands-read : (u u' u2 h h' : Option Text) (pending piece : Text) (next : ℕ) →
      Stands IsEntry n u u' h h' pending next → Consumes u' u2 piece
      → Stands IsEntry n u u2 h h' (pending ++ piece) next
  Stands-read u u' u2 h h' pending piece next s k = record {
    read = s.read ++ piece;
    written = s.written;
    reads = Consumes-then u u' u2 s.read piece s.reads k;
    writes = s.writes;
    done = Done-read s.read s.written pending piece next s.done;
  }

  -- a read of no bytes
  pub Stands-read_none : (u u' u2 h h' : Option Text) (pending block : Text) (count next : ℕ) →
      Stands IsEntry n u u' h h' pending next
      → Consumes u' u2 (take count block) → count ≡ 0 → Stands IsEntry n u u2 h h' pending next
  Stands-read_none u u' u2 h h' pending block count next s k none =
      let nothing : take count block ≡ [] = rw none refl in
      subst (λ (t : Text). Stands IsEntry n u u2 h h' t next) (append-nil pending)
      (Stands-read u u' u2 h h' pending [] next s (subst (Consumes u' u2) nothing k))

  -- the entries of what a piece ends were written
  pub Stands-fed : (u u' h h' h2 : Option Text) (pending piece old new pending' : Text)
      (next next' : ℕ) →
      Stands IsEntry n u u' h h' (pending ++ piece) next
      → Feeds IsEntry next pending piece old new pending' next' → old ≡ [] → Appends h' h2 new →
      Stands IsEntry n u u' h h2 pending' next'
  Stands-fed u u' h h' h2 pending piece old new pending' next next' s f none k = record {
    read = s.read;
    written = s.written ++ new;
    reads = s.reads;
    writes = appends_both h h' h2 s.written new s.writes k;
    done = Done-fed s.read s.written pending piece old new pending' next next' s.done f none;
  }

  pub Stands-front : (u u' h h' : Option Text) (pending : Text) (next : ℕ) →
      Stands IsEntry n u u' h h' pending next → ListsBeginning IsEntry n u u' h h'
  Stands-front u u' h h' pending next s = begun u u' h h' s.read s.written pending s.written next s.reads
      s.writes s.done (StartsWith-itself s.written)

  -- a part of the entries of what a piece ends was written
  pub Stands-part : (u u' h h' h2 : Option Text) (pending piece old new pending' part : Text)
      (next next' : ℕ) →
      Stands IsEntry n u u' h h' (pending ++ piece) next
      → Feeds IsEntry next pending piece old new pending' next' → old ≡ [] → Appends h' h2 part →
      StartsWith new part → ListsBeginning IsEntry n u u' h h2
  Stands-part u u' h h' h2 pending piece old new pending' part next next' s f none k b =
      begun u u' h h2 s.read (s.written ++ new) pending' (s.written ++ part) next' s.reads
      (appends_both h h' h2 s.written part s.writes k)
      (Done-fed s.read s.written pending piece old new pending' next next' s.done f none)
      (StartsWith-behind s.written new part b)

  -- all lines, and their entries

  whole : (read entries pending : Text) (next : ℕ) → (d : Done IsEntry n read entries pending next) →
      lines_of read ≡ d.lines ++ lines_of pending
  whole read entries pending next d = ap lines_of d.cut ∙ lines_of-ended d.lines pending d.are_lines

  all_entries : (read entries pending old new : Text) (next next' : ℕ) →
      Done IsEntry n read entries pending next → Ends IsEntry next pending old new next' → old ≡ []
      → IsListing IsEntry n read (entries ++ new)
  all_entries read entries pending old new next next' d f none =
      let new_is : f.added ≡ new = sym (f.adds ∙ ap (λ (t : Text). t ++ f.added) none) in
      let entries_are : AreEntries IsEntry (n + length d.lines) (lines_of pending) f.added =
      subst (λ (m : ℕ). AreEntries IsEntry m (lines_of pending) f.added) d.counts f.is_listing in
      subst (λ (ls : List Text). AreEntries IsEntry n ls (entries ++ new))
      (sym (whole read entries pending next d))
      (AreEntries-append IsEntry n d.lines (lines_of pending) entries new d.are_entries
      (subst (AreEntries IsEntry (n + length d.lines) (lines_of pending)) new_is entries_are))

  pub Stands-end : (u u' h h' h2 : Option Text) (pending old new : Text) (next next' : ℕ) →
      Stands IsEntry n u u' h h' pending next → IsAtEnd u'
      → Ends IsEntry next pending old new next' → old ≡ [] → Appends h' h2 new →
      ListsAll IsEntry n u u' h h2 next'
  Stands-end u u' h h' h2 pending old new next next' s end f none k =
      let lines_are = ap length (whole s.read s.written pending next s.done) in
      record {
        read = s.read;
        written = s.written ++ new;
        reads = s.reads;
        all_read = end;
        writes = appends_both h h' h2 s.written new s.writes k;
        is_listing = all_entries s.read s.written pending old new next next' s.done f none;
        counts =
            omega (arith, lines_are, s.done.counts, f.counts, length-append s.done.lines (lines_of pending));
      }

  pub Stands-end_part : (u u' h h' h2 : Option Text) (pending old new part : Text) (next next' : ℕ) →
      Stands IsEntry n u u' h h' pending next → IsAtEnd u'
      → Ends IsEntry next pending old new next' → old ≡ [] → Appends h' h2 part → StartsWith new part →
      ListsBeginning IsEntry n u u' h h2
  Stands-end_part u u' h h' h2 pending old new part next next' s end f none k b =
      let all : BeginsListing IsEntry n s.read (s.written ++ part) = record {
        lines = lines_of s.read;
        later = [];
        entries = s.written ++ new;
        are_first = sym (append-nil (lines_of s.read));
        are_entries = all_entries s.read s.written pending old new next next' s.done f none;
        begins = StartsWith-behind s.written new part b;
      } in
      record {
        read = s.read;
        written = s.written ++ part;
        reads = s.reads;
        writes = appends_both h h' h2 s.written part s.writes k;
        begins = all;
        begins_all = at_end u' (λ left. BeginsListing IsEntry n (s.read ++ left) (s.written ++ part)) end
            (subst (λ (t : Text). BeginsListing IsEntry n t (s.written ++ part)) (sym (append-nil s.read))
            all);
      }

-- Demand 3 for a C program: with room for every row, a session over the functions at the boundary is one over the stream reader's,
-- no function gives a number but 0, and each row is that of its call's answer. And such sessions there are.
-- Assumes nothing.
use Prim.Native.Nat.{ℕ, ◌<◌}
use Rattle.rules.specs.declared.Refusal.{Refusal}
use Rattle.stream_rules.specs.declared.Progress.{Progress}
use Rattle.stream_rules.specs.declared.Progress.TheVariants.{Done, More, Ready}
use Rattle.std.specs.Prelude.{Err, Result}
use mathlib.Core.Path.{◌≡◌, refl, sym, ap, subst, ◌∙◌}
use mathlib.Core.Bool.{true, cond, false≢true}
use mathlib.Core.List.{List, [], ◌∷◌}
use native.Mathlib.Nat.{mod-eq_of_lt}
use native.Mathlib.Omega.{arith}
use borrow.Author.Tests.{eq-eqb, eqb-false}
use lib.Dec.{eqb, lit≤}
use lib.IntN.{ℤ, pos, nat_abs}
use lib.ListN.{length, take, drop, replicate, length-replicate, length-take, length-drop}
use lib.Seq.{take-append_seam}
use Rattle.rules.specs.Answers.{is_family, kind_of}
use Rattle.frame_laws.proofs.Bytes.{every_cons}
use Rattle.rules.specs.Bytes.{every}
use Rattle.stream_rules.specs.Streams.{fed, shut, fresh, said_to_feed, said_to_turn}
use Rattle.stream_rules.specs.declared.Reader.{Reader}
use Rattle.stream_rules.specs.declared.Fed.{Fed}
use Rattle.stream_rules.specs.declared.Turned.{Turned}
use Rattle.stream_laws.specs.Sessions.{Draining, Session, Following, stream_of, taken_of, is_no_refusal}
use Rattle.stream_laws.proofs.Families.{facts}
use Rattle.stream_laws.proofs.Saying.{feeds, shuts, makes}
use Rattle.stream_laws.proofs.States.{Serves, served_open, served_closed, served_shut, served_fresh, taken_within}
use Rattle.stream_laws.proofs.Sessions.{demand3}
use Rattle.stream_laws.proofs.Possible.{possible, followed}
use Rattle.rows.specs.Rows.{longest_row, done_row, kind_row, row_fed, front, refusal_of, laid_number, laid_content}
use Rattle.rows.proofs.Lengths.{row_fits, room}
use Rattle.amp.specs.Boundary.{Freshens, Closes}
use Rattle.boundary.proofs.Apart.{of_frame}
use Rattle.boundary.specs.RowSessions.{row_kind, row_taken, most_lent, RowCall, RowDraining, RowSession, RowsOf, RowDemand3}
use Rattle.std.specs.Prelude.{Ok}

-- what a row that stands at the front shows
pub at_front : (r numbers : List ℤ) → take (length r) (front r numbers) ≡ r
unfolding front
at_front r numbers = take-append_seam r (drop (length r) numbers)

-- What a program has of a call that is not refused.
pub record Had (r : Reader) (offered : List ℕ) (a : (Result Progress Refusal)) (number : ℕ) (after : Reader) (row : List ℤ) : Type 0 where
  pub zero : number ≡ 0
  pub left : after ≡ (fed r offered).reader
  pub shown : take (length (row_fed a)) row ≡ row_fed a
  pub taken : row_taken row ≡ taken_of a
  pub kind : row_kind row ≡ row_kind (row_fed a)

module _ {r : Reader} {offered : List ℕ} {number : ℕ} {after : Reader} {row : List ℤ} (c : RowCall r offered number after row) where
  -- from a row that has room and says how many bytes were taken
  had_row : (a : (Result Progress Refusal)) → (fed r offered).answer ≡ a → number ≡ 0 → row_taken (front (row_fed a) c.numbers) ≡ taken_of a
      → row_kind (front (row_fed a) c.numbers) ≡ row_kind (row_fed a) → Had r offered a number after row
  had_row a e zero told first =
      let content : row ≡ front (row_fed a) c.numbers =
      c.feeds.lays.content ∙ rw (eq-eqb number 0 zero, e) in
      record {
        zero = zero;
        left = c.feeds.leaves ∙ rw (eq-eqb number 0 zero);
        shown = ap (take (length (row_fed a))) content ∙ at_front (row_fed a) c.numbers;
        taken = ap row_taken content ∙ told;
        kind = ap row_kind content ∙ first;
      }

  pub few : taken_of (fed r offered).answer < most_lent
  few = omega (arith, c.lent, taken_within r offered (facts r.family) (fed r offered) (feeds refl))

  pub had : (a : (Result Progress Refusal)) → (fed r offered).answer ≡ a → is_no_refusal a ≡ true → Had r offered a number after row
  unfolding front
  had (Ok (Ready x)) e fine =
      let short = row_fits x.taken x.start x.skipped x.length x.frame in
      had_row (Ok (Ready x)) e (c.feeds.lays.answers ∙ rw e (room (row_fed (Ok (Ready x))) c.numbers short c.room)) (mod-eq_of_lt (rw e at few)) refl
  had (Ok (More n)) e fine =
      had_row (Ok (More n)) e (c.feeds.lays.answers ∙ rw e (room (row_fed (Ok (More n))) c.numbers (lit≤ tt) c.room)) (mod-eq_of_lt (rw e at few)) refl
  had (Ok (Done n)) e fine =
      had_row (Ok (Done n)) e (c.feeds.lays.answers ∙ rw e (room (row_fed (Ok (Done n))) c.numbers (lit≤ tt) c.room)) (mod-eq_of_lt (rw e at few)) refl
  had (Err n) e fine = absurd (false≢true fine)

-- A session of the stream reader, or a draining, whose rows these are, and no number but 0.
record Behind (Of : List (Result Progress Refusal) → Type 0) (numbers : List ℕ) (rows : List (List ℤ)) : Type 0 where
  none : every (eqb 0) numbers ≡ true
  answers : List (Result Progress Refusal)
  session : Of answers
  shown : RowsOf answers rows

zeros : (number : ℕ) (numbers : List ℕ) → number ≡ 0 → every (eqb 0) numbers ≡ true → every (eqb 0) (number ∷ numbers) ≡ true
zeros number numbers e rest = every_cons (eqb 0) number numbers (eq-eqb 0 number (sym e)) rest

-- only the row of done says so
is_done : (a : (Result Progress Refusal)) → row_kind (row_fed a) ≡ pos done_row → (n : ℕ) × (a ≡ Ok (Done n))
is_done (Ok (Ready x)) e = absurd (eqb-false (kind_row (kind_of x.frame)) done_row (of_frame (kind_of x.frame)).1 (ap nat_abs e))
is_done (Ok (More n)) e = absurd (omega (arith, ap nat_abs e))
is_done (Ok (Done n)) e = (n, refl)
is_done (Err n) e = absurd (omega (arith, ap nat_abs e))

-- closing is not refused
module _ {closed : ℕ} {r : Reader} {number : ℕ} {after : Reader} (c : Closes r number after) (s : Serves closed r) where
  closed_zero : number ≡ 0
  closed_zero = c.answers ∙ ap (λ (o : (Result Unit Refusal)). refusal_of (said_to_turn o)) (served_shut r (facts r.family) s).0

  closed_serves : Serves 1 after
  closed_serves = subst (Serves 1) (sym c.leaves) (served_shut r (facts r.family) s).1

drains : {r : Reader} {numbers : List ℕ} {rows : List (List ℤ)} → RowDraining r numbers rows → Serves 1 r → Behind (Draining r) numbers rows
unfolding every
drains {r} (RowDraining.calls {numbers = numbers} number after row c later) s =
    let a = fed r [] in
    let served = served_closed r (facts r.family) s in
    let h = had c a.answer refl served.fine in
    let rest = drains later (subst (Serves 1) (sym h.left) served.serves) in
    record {
      none = zeros number numbers h.zero rest.none;
      answers = a.answer ∷ rest.answers;
      session = Draining.calls a (feeds refl) (subst (λ (q : Reader). Draining q rest.answers) h.left rest.session);
      shown = (h.shown, rest.shown);
    }
drains {r} (RowDraining.closes_again {numbers = numbers} number after c later) s =
    let rest = drains later (closed_serves c s) in
    record {
      none = zeros number numbers (closed_zero c s) rest.none;
      answers = rest.answers;
      session = Draining.closes_again (shut r) (shuts refl) (subst (λ (q : Reader). Draining q rest.answers) c.leaves rest.session);
      shown = rest.shown;
    }
drains {r} (RowDraining.ends number after row c kind) s =
    let a = fed r [] in
    let served = served_closed r (facts r.family) s in
    let h = had c a.answer refl served.fine in
    let (n, done) = is_done a.answer (sym h.kind ∙ kind) in
    record {
      none = zeros number [] h.zero refl;
      answers = a.answer ∷ [];
      session = Draining.ends a n (feeds refl) done;
      shown = (h.shown, tt);
    }

behind : {r : Reader} {left lengths numbers : List ℕ} {rows : List (List ℤ)} → RowSession r left lengths numbers rows → Serves 0 r → Behind (Session r left lengths) numbers rows
behind {r} (RowSession.calls {left = left} {lengths = lengths} {numbers = numbers} n number after row c later) s =
    let a = fed r (take n left) in
    let served = served_open r (facts r.family) (take n left) s in
    let h = had c a.answer refl served.fine in
    let rest = behind later (subst (Serves 0) (sym h.left) served.serves) in
    let then = subst (λ (q : Reader). Session q (drop (row_taken row) left) lengths rest.answers) h.left rest.session in
    record {
      none = zeros number numbers h.zero rest.none;
      answers = a.answer ∷ rest.answers;
      session = Session.calls n a (feeds refl) (subst (λ (k : ℕ). Session a.reader (drop k left) lengths rest.answers) h.taken then);
      shown = (h.shown, rest.shown);
    }
behind {r} (RowSession.closes {numbers = numbers} number after c later) s =
    let rest = drains later (closed_serves c s) in
    record {
      none = zeros number numbers (closed_zero c s) rest.none;
      answers = rest.answers;
      session = Session.closes (shut r) (shuts refl) (subst (λ (q : Reader). Draining q rest.answers) c.leaves rest.session);
      shown = rest.shown;
    }

-- Demand 3 for a C program, of every session.
pub rows_tell : (family : ℕ) → is_family family ≡ true
    → (was : Reader) (number : ℕ) (reader : Reader) → Freshens family was number reader
    → (stream lengths numbers : List ℕ) (rows : List (List ℤ)) → RowSession reader stream lengths numbers rows
    → (number ≡ 0) × RowDemand3 family stream numbers rows
rows_tell family known was number reader freshens stream lengths numbers rows session =
    let made = served_fresh family known in
    let is : reader ≡ (fresh family).reader = freshens.leaves ∙ rw known in
    let b = behind session (subst (Serves 0) (sym is) made.1) in (
      freshens.answers ∙ ap (λ (o : (Result Unit Refusal)). refusal_of (said_to_turn o)) made.0,
      record {
        none_refused = b.none;
        answers = b.answers;
        tells = demand3 family known (facts family) (fresh family) (makes refl) stream lengths b.answers
            (subst (λ (q : Reader). Session q stream lengths b.answers) is b.session);
        shown = b.shown;
      },
    )

-- Sessions there are: with as many numbers as the longest row has lent to each call, one for each session of the stream reader.
abbrev lent : List ℤ
lent = replicate longest_row (pos 0)

-- what a call gives back, and leaves
module _ (r : Reader) (offered : List ℕ) where
  abbrev number_of : ℕ
  number_of = laid_number (said_to_feed (fed r offered).answer) (row_fed (fed r offered).answer) lent

  abbrev row_of : List ℤ
  row_of = laid_content (row_fed (fed r offered).answer) lent number_of

  abbrev reader_of : Reader
  reader_of = cond (eqb number_of 0) (fed r offered).reader r

  called : length offered < most_lent → RowCall r offered number_of reader_of row_of
  called small = record {
    numbers = lent;
    room = omega (arith, length-replicate longest_row (pos 0));
    lent = small;
    feeds = record { lays = record { answers = refl; content = refl }; leaves = refl };
  }

-- what closing gives back
closing : (r : Reader) → Closes r (refusal_of (said_to_turn (shut r).outcome)) (shut r).reader
closing r = record { answers = refl; leaves = refl }

there_drained : {r : Reader} {answers : List (Result Progress Refusal)} → Draining r answers → Serves 1 r → (numbers : List ℕ) × (rows : List (List ℤ)) × RowDraining r numbers rows
there_drained {r} (Draining.calls a e later) s =
    let served = served_closed r (facts r.family) s in
    let c = called r [] (omega arith) in
    let h = had c (fed r []).answer refl served.fine in
    let (numbers, rows, rest) = there_drained later (subst (λ (f : Fed). Serves 1 f.reader) (sym e.answers) served.serves) in
    let is : a.reader ≡ reader_of r [] = ap (λ (f : Fed). f.reader) e.answers ∙ sym h.left in
    (number_of r [] ∷ numbers, row_of r [] ∷ rows, RowDraining.calls (number_of r []) (reader_of r []) (row_of r []) c (subst (λ (q : Reader). RowDraining q numbers rows) is rest))
there_drained {r} (Draining.closes_again t e later) s =
    let (numbers, rows, rest) = there_drained later (subst (λ (u : Turned). Serves 1 u.reader) (sym e.answers) (served_shut r (facts r.family) s).1) in
    let number = refusal_of (said_to_turn (shut r).outcome) in
    let is : t.reader ≡ (shut r).reader = ap (λ (u : Turned). u.reader) e.answers in
    (number ∷ numbers, rows, RowDraining.closes_again number (shut r).reader (closing r) (subst (λ (q : Reader). RowDraining q numbers rows) is rest))
there_drained {r} (Draining.ends a n e done) s =
    let served = served_closed r (facts r.family) s in
    let c = called r [] (omega arith) in
    let h = had c (fed r []).answer refl served.fine in
    let is : (fed r []).answer ≡ Ok (Done n) = sym (ap (λ (f : Fed). f.answer) e.answers) ∙ done in
    (number_of r [] ∷ [], row_of r [] ∷ [], RowDraining.ends (number_of r []) (reader_of r []) (row_of r []) c (h.kind ∙ ap (λ (b : (Result Progress Refusal)). row_kind (row_fed b)) is))

pub rows_there : {r : Reader} {left lengths : List ℕ} {answers : List (Result Progress Refusal)} → Session r left lengths answers → Serves 0 r → length left < most_lent
    → (numbers : List ℕ) × (rows : List (List ℤ)) × RowSession r left lengths numbers rows
rows_there {r} (Session.calls {left = left} {lengths = lengths} n a e later) s small =
    let offered = take n left in
    let served = served_open r (facts r.family) offered s in
    let c = called r offered (omega (arith, small, length-take n left)) in
    let h = had c (fed r offered).answer refl served.fine in
    let (numbers, rows, rest) =
    rows_there later (subst (λ (f : Fed). Serves 0 f.reader) (sym e.answers) served.serves) (omega (arith, small, length-drop (taken_of a.answer) left)) in
    let is : a.reader ≡ reader_of r offered = ap (λ (f : Fed). f.reader) e.answers ∙ sym h.left in
    let took : taken_of a.answer ≡ row_taken (row_of r offered) = ap (λ (f : Fed). taken_of f.answer) e.answers ∙ sym h.taken in
    let then = subst (λ (k : ℕ). RowSession a.reader (drop k left) lengths numbers rows) took rest in (
      number_of r offered ∷ numbers,
      row_of r offered ∷ rows,
      RowSession.calls n (number_of r offered) (reader_of r offered) (row_of r offered) c
          (subst (λ (q : Reader). RowSession q (drop (row_taken (row_of r offered)) left) lengths numbers rows) is then),
    )
rows_there {r} (Session.closes t e later) s small =
    let (numbers, rows, rest) = there_drained later (subst (λ (u : Turned). Serves 1 u.reader) (sym e.answers) (served_shut r (facts r.family) s).1) in
    let number = refusal_of (said_to_turn (shut r).outcome) in
    let is : t.reader ≡ (shut r).reader = ap (λ (u : Turned). u.reader) e.answers in
    (number ∷ numbers, rows, RowSession.closes number (shut r).reader (closing r) (subst (λ (q : Reader). RowDraining q numbers rows) is rest))

-- So there is one for every cut of a stream: its calls offer as many bytes each as those of the session that follows the cut.
pub rows_end : (family : ℕ) → is_family family ≡ true
    → (was : Reader) (number : ℕ) (reader : Reader) → Freshens family was number reader
    → (pieces : List (List ℕ)) → length (stream_of pieces) < most_lent
    → (answers : List (Result Progress Refusal)) × (follows : Following (fresh family).reader pieces answers)
    × (numbers : List ℕ) × (rows : List (List ℤ)) × RowSession reader (stream_of pieces) (followed follows).0 numbers rows
rows_end family known was number reader freshens pieces small =
    let is : reader ≡ (fresh family).reader = freshens.leaves ∙ rw known in
    let (answers, following) = possible family known (fresh family) (makes refl) pieces in
    let (numbers, rows, there) = rows_there (followed following).1 (served_fresh family known).1 small in
    (answers, following, numbers, rows, subst (λ (q : Reader). RowSession q (stream_of pieces) (followed following).0 numbers rows) (sym is) there)

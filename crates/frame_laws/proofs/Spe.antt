-- Demand 2 for the SPE families: the reader of one frame is exact, each frame in range reads back the same once
-- written, and what was read gives its own bytes if, and only if, it stood in the writer's form.
-- A packet is decided by its six bytes; the report's part stands in `Report` and `Form`. Assumes nothing.
use Prim.Native.Nat.{ℕ}
use Rattle.rules.specs.Answers.{Read}
use Rattle.rules.specs.declared.Refusal.TheVariants.{NotGood}
use Rattle.std.specs.Prelude.{Err, Ok}
use mathlib.Core.Path.{◌≡◌, refl, sym, ap}
use mathlib.Core.Bool.{true, false}
use mathlib.Core.List.{List}
use mathlib.Core.Logic.{◌↔◌, ⊎_elim}
use native.Mathlib.Omega.{arith}
use lib.ListN.{get_or}
use Rattle.rules.specs.Codes.{is_code, is_ack_code, command, is_command, ack, is_ack}
use Rattle.rules.specs.Status.{status_frame, status_in, status_bytes, is_status}
use Rattle.rules.specs.Answers.{read_one, read_family1, read_family3, allowed, bytes_of}
use Rattle.rules.specs.Form.{in_form}
use Rattle.rules.specs.declared.Status as StatusType
use Rattle.rules.specs.declared.Frame.{Frame}
use Rattle.rules.specs.declared.Frame.TheVariants.{Ack, Status, Command}
use Rattle.frame_laws.proofs.Bytes.{tests, answer, same_eq, same_refl}
use Rattle.frame_laws.proofs.Report.{fits, report_good, record_back}
use Rattle.frame_laws.proofs.Form.{report_in_range, form_of_written, written_of_form, in_frame}
use Rattle.rules.specs.declared.Refusal.{Refusal}

-- What the reader of family 3 answers, by the test of a command.
pub data Answer3 (bs : List ℕ) (r : Read) : Type 0 where
  a_command : is_command bs ≡ true → r ≡ Ok (Command (get_or bs 4 0)) → Answer3 bs r
  none : is_command bs ≡ false → r ≡ Err NotGood → Answer3 bs r

pub answer_3 : (bs : List ℕ) → Answer3 bs (read_one 3 bs)
unfolding read_one read_family3
answer_3 bs =
    ⊎_elim
    (λ (h : is_command bs ≡ true). a_command h (rw h))
    (λ (h : is_command bs ≡ false). none h (rw h))
    (answer (is_command bs))

-- A report is no acknowledgement: its count is another.
report_no_ack : (bs : List ℕ) → is_status bs ≡ true → is_ack bs ≡ false
unfolding is_ack status_frame
report_no_ack bs g =
    ⊎_elim
    (λ (h : is_ack bs ≡ true).
    let count_01 : get_or bs 3 0 ≡ 0x01 = ap (λ (x : List ℕ). get_or x 3 0) (same_eq bs (ack (get_or bs 4 0)) (search tests)) in
    let count_43 : get_or bs 3 0 ≡ 0x43 = ap (λ (x : List ℕ). get_or x 3 0) (in_frame bs g) in
    absurd (omega arith))
    (λ (h : is_ack bs ≡ false). h)
    (answer (is_ack bs))

-- What the reader of family 1 answers, by its two tests.
pub data Answer1 (bs : List ℕ) (r : Read) : Type 0 where
  an_ack : is_ack bs ≡ true → r ≡ Ok (Ack (get_or bs 4 0)) → Answer1 bs r
  a_report : is_status bs ≡ true → r ≡ Ok (Status (status_in bs)) → Answer1 bs r
  neither : is_ack bs ≡ false → is_status bs ≡ false → r ≡ Err NotGood → Answer1 bs r

pub answer_1 : (bs : List ℕ) → Answer1 bs (read_one 1 bs)
unfolding read_one read_family1
answer_1 bs =
    ⊎_elim
    (λ (h : is_ack bs ≡ true). an_ack h (rw h))
    (λ (h : is_ack bs ≡ false).
    ⊎_elim
    (λ (g : is_status bs ≡ true). a_report g (rw (h, g)))
    (λ (g : is_status bs ≡ false). neither h g (rw (h, g)))
    (answer (is_status bs)))
    (answer (is_ack bs))

-- Below, `cc` settles each case in which the answer in hand and the one asked for differ.

-- Bytes read as a command with the code c if, and only if, they are its packet and c is a command code.
pub command_exact : (bs : List ℕ) (c : ℕ) → (read_one 3 bs ≡ Ok (Command c)) ↔ ((bs ≡ command c) × (is_code c ≡ true))
unfolding read_one read_family3 is_command
command_exact bs c = (exact (read_one 3 bs) (answer_3 bs), λ h. rw (h.0, same_refl (command c), h.1))
  where
    exact : (r : Read) → Answer3 bs r → r ≡ Ok (Command c) → (bs ≡ command c) × (is_code c ≡ true)
    exact r (a_command h q) e =
        let code_is : c ≡ get_or bs 4 0 = cc in
        rw code_is (same_eq bs (command (get_or bs 4 0)) (search tests), search tests)
    exact r (none h q) e = (cc, cc)

-- They are refused if, and only if, they are no command; and then with number 8.
pub command_refused : (bs : List ℕ) (n : Refusal) → (read_one 3 bs ≡ Err n) ↔ ((is_command bs ≡ false) × (n ≡ NotGood))
unfolding read_one read_family3
command_refused bs n = (exact (read_one 3 bs) (answer_3 bs), λ h. rw (h.0, h.1))
  where
    exact : (r : Read) → Answer3 bs r → r ≡ Err n → (is_command bs ≡ false) × (n ≡ NotGood)
    exact r (a_command h q) e = (cc, cc)
    exact r (none h q) e = (h, cc)

-- Bytes read as an acknowledgement of c if, and only if, they are its packet and c is a code that is acknowledged.
pub ack_exact : (bs : List ℕ) (c : ℕ) → (read_one 1 bs ≡ Ok (Ack c)) ↔ ((bs ≡ ack c) × (is_ack_code c ≡ true))
unfolding read_one read_family1 is_ack
ack_exact bs c = (exact (read_one 1 bs) (answer_1 bs), λ h. rw (h.0, same_refl (ack c), h.1))
  where
    exact : (r : Read) → Answer1 bs r → r ≡ Ok (Ack c) → (bs ≡ ack c) × (is_ack_code c ≡ true)
    exact r (an_ack h q) e =
        let code_is : c ≡ get_or bs 4 0 = cc in
        rw code_is (same_eq bs (ack (get_or bs 4 0)) (search tests), search tests)
    exact r (a_report h q) e = (cc, cc)
    exact r (neither h g q) e = (cc, cc)

-- Bytes read as a report s if, and only if, they are a good report, and s holds the values of its data.
pub status_exact : (bs : List ℕ) (s : StatusType.Status) → (read_one 1 bs ≡ Ok (Status s)) ↔ ((is_status bs ≡ true) × (s ≡ status_in bs))
unfolding read_one read_family1
status_exact bs s = (exact (read_one 1 bs) (answer_1 bs), λ h. rw (report_no_ack bs h.0, h.0, h.1))
  where
    exact : (r : Read) → Answer1 bs r → r ≡ Ok (Status s) → (is_status bs ≡ true) × (s ≡ status_in bs)
    exact r (an_ack h q) e = (cc, cc)
    exact r (a_report h q) e = (h, cc)
    exact r (neither h g q) e = (cc, cc)

-- They are refused if, and only if, they are neither; and then with number 8.
pub family1_refused : (bs : List ℕ) (n : Refusal) → (read_one 1 bs ≡ Err n) ↔ ((is_ack bs ≡ false) × (is_status bs ≡ false) × (n ≡ NotGood))
unfolding read_one read_family1
family1_refused bs n = (exact (read_one 1 bs) (answer_1 bs), λ h. rw (h.0, h.1, h.2))
  where
    exact : (r : Read) → Answer1 bs r → r ≡ Err n → (is_ack bs ≡ false) × (is_status bs ≡ false) × (n ≡ NotGood)
    exact r (an_ack h q) e = (cc, cc, cc)
    exact r (a_report h q) e = (cc, cc, cc)
    exact r (neither h g q) e = (h, g, cc)

-- An acknowledgement, a command or a report in range, once written, reads back the same.
pub ack_back : (c : ℕ) → allowed (Ack c) ≡ true → read_one 1 (bytes_of (Ack c)) ≡ Ok (Ack c)
unfolding allowed bytes_of
ack_back c e = (ack_exact (ack c) c).1 (refl, e)

pub command_back : (c : ℕ) → allowed (Command c) ≡ true → read_one 3 (bytes_of (Command c)) ≡ Ok (Command c)
unfolding allowed bytes_of
command_back c e = (command_exact (command c) c).1 (refl, e)

pub status_back : (s : StatusType.Status) → allowed (Status s) ≡ true → read_one 1 (bytes_of (Status s)) ≡ Ok (Status s)
unfolding allowed bytes_of
status_back s e =
    (status_exact (status_bytes s) s).1 (report_good s (fits s e) e, sym (record_back s (fits s e)))

-- What is read is allowed.
pub family1_allowed : (bs : List ℕ) (f : Frame) → read_one 1 bs ≡ Ok f → allowed f ≡ true
unfolding allowed is_ack
family1_allowed bs f = case (read_one 1 bs) (answer_1 bs)
  where
    case : (r : Read) → Answer1 bs r → r ≡ Ok f → allowed f ≡ true
    case r (an_ack h q) e = let f_is : f ≡ Ack (get_or bs 4 0) = cc in rw f_is (search tests)
    case r (a_report h q) e = let f_is : f ≡ Status (status_in bs) = cc in rw f_is (report_in_range bs h)
    case r (neither h g q) e = cc

pub family3_allowed : (bs : List ℕ) (f : Frame) → read_one 3 bs ≡ Ok f → allowed f ≡ true
unfolding allowed is_command
family3_allowed bs f = case (read_one 3 bs) (answer_3 bs)
  where
    case : (r : Read) → Answer3 bs r → r ≡ Ok f → allowed f ≡ true
    case r (a_command h q) e = let f_is : f ≡ Command (get_or bs 4 0) = cc in rw f_is (search tests)
    case r (none h q) e = cc

-- What is read, written again, gives its own bytes if, and only if, it stood in the writer's form.
pub family1_again : (bs : List ℕ) (f : Frame) → read_one 1 bs ≡ Ok f → (bytes_of f ≡ bs) ↔ (in_form f bs ≡ true)
unfolding bytes_of in_form is_ack
family1_again bs f = case (read_one 1 bs) (answer_1 bs)
  where
    case : (r : Read) → Answer1 bs r → r ≡ Ok f → (bytes_of f ≡ bs) ↔ (in_form f bs ≡ true)
    case r (an_ack h q) e =
        let f_is : f ≡ Ack (get_or bs 4 0) = cc in
        rw f_is ((λ _. refl), (λ _. sym (same_eq bs (ack (get_or bs 4 0)) (search tests))))
    case r (a_report h q) e =
        let f_is : f ≡ Status (status_in bs) = cc in
        rw f_is (form_of_written bs h, written_of_form bs h)
    case r (neither h g q) e = ((λ _. cc), (λ _. cc))

pub family3_again : (bs : List ℕ) (f : Frame) → read_one 3 bs ≡ Ok f → (bytes_of f ≡ bs) ↔ (in_form f bs ≡ true)
unfolding bytes_of in_form is_command
family3_again bs f = case (read_one 3 bs) (answer_3 bs)
  where
    case : (r : Read) → Answer3 bs r → r ≡ Ok f → (bytes_of f ≡ bs) ↔ (in_form f bs ≡ true)
    case r (a_command h q) e =
        let f_is : f ≡ Command (get_or bs 4 0) = cc in
        rw f_is ((λ _. refl), (λ _. sym (same_eq bs (command (get_or bs 4 0)) (search tests))))
    case r (none h q) e = ((λ _. cc), (λ _. cc))

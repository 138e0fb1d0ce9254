-- The values of a frame, in the order of document 01, tell its record: it can be had again from them, so two records with the same values are the same.
-- Assumes nothing.
use Prim.Native.Nat.{ℕ}
use mathlib.Core.Path.{◌≡◌, ap}
use mathlib.Core.List.{List}
use lib.IntN.{ℤ, pos, nat_abs}
use lib.ListN.{get_or}
use Rattle.rules.specs.Sentences.{numbers02, numbers03}
use Rattle.rules.specs.Answers.{values}
use Rattle.rules.specs.declared.Status as StatusType
use Rattle.rules.specs.declared.Sentence02.{Sentence02}
use Rattle.rules.specs.declared.Sentence03.{Sentence03}
use Rattle.rules.specs.declared.Sentence05.{Sentence05}
use Rattle.rules.specs.declared.Clock as ClockType
use Rattle.rules.specs.declared.Letters.{Letters}
use Rattle.rules.specs.declared.Message.TheVariants.{Number, Version, Clock, OtherLetters}
use Rattle.rules.specs.declared.Frame.TheVariants.{Status, Apa02, Apa03, Apa05, Message}

-- the number at a place of some values; a temperature has a sign, all other fields none
abbrev pub at : List ℤ → ℕ → ℕ
at vs i = nat_abs (get_or vs i (pos 0))

-- The record of some values.
abbrev pub status_of : List ℤ → StatusType.Status
status_of vs = record {
  id = at vs 0;
  state = at vs 1;
  direction = at vs 2;
  bank = at vs 3;
  input = at vs 4;
  band = at vs 5;
  transmit = at vs 6;
  tuner = at vs 7;
  receive = at vs 8;
  level = at vs 9;
  watts = at vs 10;
  swratu = at vs 11;
  swrant = at vs 12;
  volts = at vs 13;
  amperes = at vs 14;
  upper = at vs 15;
  lower = at vs 16;
  combiner = at vs 17;
  warning = at vs 18;
  alarm = at vs 19;
  comma = at vs 20;
}

abbrev pub of02 : List ℤ → Sentence02
of02 vs = record {
  pfwd = at vs 0;
  swr = at vs 1;
  pin = at vs 2;
  vp = at vs 3;
  ip = at vs 4;
  gain = at vs 5;
  vg = at vs 6;
  ig = at vs 7;
  band = at vs 8;
  state = at vs 9;
  fault = at vs 10;
  key = at vs 11;
  pep = at vs 12;
}

abbrev pub of03 : List ℤ → Sentence03
of03 vs = record {
  v5 = at vs 0;
  v12 = at vs 1;
  v24 = at vs 2;
  m12 = at vs 3;
  v40 = at vs 4;
  acline = at vs 5;
  mbstatus = at vs 6;
  mbtap = at vs 7;
  temp = get_or vs 8 (pos 0);
}

abbrev pub of05 : List ℤ → Sentence05
of05 vs = record {
  band = at vs 0;
  segment = at vs 1;
  memory = at vs 2;
  antenna = at vs 3;
  meter = at vs 4;
  control = at vs 5;
  options = at vs 6;
  state = at vs 7;
  wtime = at vs 8;
  tcmd = at vs 9;
  lcmd = at vs 10;
}

abbrev pub clock_of : List ℤ → ClockType.Clock
clock_of vs = record {
  year = at vs 0;
  month = at vs 1;
  day = at vs 2;
  hour = at vs 3;
  minute = at vs 4;
  second = at vs 5;
}

abbrev pub letters_of : List ℤ → Letters
letters_of vs = record {
  first = at vs 0;
  second = at vs 1;
  third = at vs 2;
  fourth = at vs 3;
  fifth = at vs 4;
  sixth = at vs 5;
  seventh = at vs 6;
  eighth = at vs 7;
  ninth = at vs 8;
  tenth = at vs 9;
}

-- Two records with the same values are the same.
pub status_told : (s t : StatusType.Status) → values (Status s) ≡ values (Status t) → s ≡ t
status_told s t e = ap status_of e

pub told_02 : (s t : Sentence02) → values (Apa02 s) ≡ values (Apa02 t) → s ≡ t
unfolding numbers02
told_02 s t e = ap of02 e

pub told_03 : (s t : Sentence03) → values (Apa03 s) ≡ values (Apa03 t) → s ≡ t
unfolding numbers03
told_03 s t e = ap of03 e

pub told_05 : (s t : Sentence05) → values (Apa05 s) ≡ values (Apa05 t) → s ≡ t
told_05 s t e = ap of05 e

-- Of a message: its number, the two of its version, its clock, and the ten that hold letters that are not listed.
pub number_told : (n k j : ℕ) → values (Message (Number n k)) ≡ values (Message (Number n j)) → k ≡ j
number_told n k j e = ap (λ (vs : List ℤ). at vs 0) e

pub version_told : (a b c d : ℕ) → values (Message (Version a b)) ≡ values (Message (Version c d)) → (a ≡ c) × (b ≡ d)
version_told a b c d e = (ap (λ (vs : List ℤ). at vs 0) e, ap (λ (vs : List ℤ). at vs 1) e)

pub clock_told : (c d : ClockType.Clock) → values (Message (Clock c)) ≡ values (Message (Clock d)) → c ≡ d
clock_told c d e = ap clock_of e

pub letters_told : (v w : Letters) → values (Message (OtherLetters v)) ≡ values (Message (OtherLetters w)) → v ≡ w
letters_told v w e = ap letters_of e

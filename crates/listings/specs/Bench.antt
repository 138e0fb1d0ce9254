-- Whole outputs of the program `listing`, by the definitions: cases 1 and 11 of the bench sheet, messages, and the
-- refusals.
use Rattle.std.specs.Prelude.{ℕ, ◌≡◌, true, false, List, [], ◌∷◌}
use Rattle.rules.specs.Bytes.{ascii}
use Rattle.rules.specs.Answers.{is_family}
use Rattle.stream_rules.specs.Lister.{fits}
use Rattle.demands.specs.Bench.{bytes1, some_messages}
use Rattle.listings.specs.Listing.{listing, output}

pub record ListingSheet : Type 0 where
  -- 1. The listing printed in document 01.
  pub case1 : output (0x31 ∷ bytes1) ≡ ascii "start length skipped kind\n1 6 1 ack 0D\nframes 1 bytes 7 skipped 1\n"
  -- 11. Of an empty capture no frame is listed.
  pub case11 : output (ascii "2") ≡ ascii "start length skipped kind\nframes 0 bytes 0 skipped 0\n"
  -- The messages of document 02, [1], are listed by their letters.
  pub messages : listing 4 some_messages
      ≡ ascii "start length skipped kind\n1 9 1 PWF\n10 5 0 PWF\n15 7 0 BT\n22 4 0 FT\nframes 4 bytes 26 skipped 1\n"
  -- A missing or bad first byte prints refusal 1 only, and a long capture 7.
  pub no_digit : output [] ≡ ascii "refused 1\n"
  pub bad_family : (family : ℕ) (capture : List ℕ) → is_family family ≡ false
      → listing family capture ≡ ascii "refused 1\n"
  pub long_capture : (family : ℕ) (capture : List ℕ) → is_family family ≡ true → fits capture ≡ false
      → listing family capture ≡ ascii "refused 7\n"

-- The listings of the bench sheet: each is computed from the definitions.
-- Assumes nothing.
use mathlib.Core.Path.{refl}
use mathlib.Core.List.{flat_map}
use Rattle.rules.specs.Bytes.{total, one_of, every, same}
use Rattle.rules.specs.Numbers.{decimal_from, hex_digit, with_zeros}
use Rattle.rules.specs.Codes.{is_code, is_ack_code, is_ack}
use Rattle.rules.specs.Status.{is_status, status_frame}
use Rattle.rules.specs.Messages.{behind, is_message, is_body, is_body_byte, is_letter, capital, letter_run, word_from, without_zeros, word_letters, as_letters, is_number}
use Rattle.rules.specs.Answers.{read_family1, read_family4, read_one, read_body}
use Rattle.stream_rules.specs.Heads.{head, undecided, spe_undecided, inner_run}
use Rattle.stream_rules.specs.Rule.{rule}
use Rattle.lines.specs.Lines.{fewest_digits}
use Rattle.listings.specs.Kinds.{kind_texts}
use Rattle.listings.specs.Listing.{listing_lines}
use Rattle.listings.specs.Bench.{ListingSheet}

pub sheet : ListingSheet
unfolding listing_lines kind_texts flat_map fewest_digits with_zeros hex_digit total rule head undecided spe_undecided inner_run read_one read_family1 is_status is_ack is_ack_code is_code one_of same every decimal_from read_family4 read_body behind is_message is_body is_body_byte is_letter capital letter_run word_from without_zeros word_letters as_letters is_number status_frame
sheet = record {
  case1 = refl;
  case11 = refl;
  messages = refl;
  no_digit = refl;
  bad_family = λ family capture e. rw e;
  long_capture = λ family capture e f. rw (e, f);
}

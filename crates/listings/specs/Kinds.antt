-- The words for a kind of frame.
use Rattle.std.specs.Prelude.{ℕ, ◌%◌, List, [], ◌∷◌, ◌++◌, map}
use Rattle.rules.specs.Bytes.{ascii}
use Rattle.rules.specs.Numbers.{with_zeros, hex_digits}
use Rattle.rules.specs.Messages.{word_letters, letter_words}
use Rattle.rules.specs.declared.Kind.{Kind}
use Rattle.rules.specs.declared.Kind.TheVariants.{OfAck, OfStatus, OfCommand, OfSentence, OfQuestion, OfResponse, OfLetters}

-- a sentence by its number, in two digits
unfoldable pub sentence_texts : ℕ → List (List ℕ)
sentence_texts n = (ascii "APA" ++ with_zeros 2 (n % 100)) ∷ []

-- The kind of a message is its letters in capitals, for questions and responses alike.
unfoldable pub kind_texts : Kind → List (List ℕ)
kind_texts (OfAck c) = ascii "ack " ∷ hex_digits c ∷ []
kind_texts OfStatus = ascii "status" ∷ []
kind_texts (OfCommand c) = ascii "command " ∷ hex_digits c ∷ []
kind_texts (OfSentence n) = sentence_texts n
kind_texts (OfQuestion letters) = word_letters letters ∷ []
kind_texts (OfResponse letters) = word_letters letters ∷ []
kind_texts (OfLetters w) = map word_letters (letter_words w)

-- The receiver's answers as numbers and arrays. The numbers: 0 refused, 1 header, 2 stored, 3 packet, 4 stream fields, 5 with a late header,
-- 6 marked spoiled, 7 the end. Assumes nothing.
use Rattle.std.specs.Prelude.{false, List, ℕ, replicate, Result, Ok, Err}
use Rattle.refusal.specs.declared.Refusal.{Refusal}
use Rattle.protocol.specs.declared.StreamFrame.{StreamFrame}
use Rattle.receiver.specs.declared.Late.{Late}
use Rattle.receiver.specs.declared.Late.TheVariants.{Nothing, Header, Spoiled}
use Rattle.receiver.specs.declared.Answer.{Answer}
use Rattle.receiver.specs.declared.Answer.TheVariants as answer

abbrev pub late_number : Late → ℕ
late_number Nothing = 4
late_number (Header h) = 5
late_number Spoiled = 6

abbrev pub answer_number : Result Answer Refusal → ℕ
answer_number (Ok (answer.Header h)) = 1
answer_number (Ok (answer.Stored k)) = 2
answer_number (Ok (answer.Packet total)) = 3
answer_number (Ok (answer.Stream f l)) = late_number l
answer_number (Ok answer.Ended) = 7
answer_number (Err why) = 0

-- the number of a stored piece, the total of a packet
abbrev pub answer_count : Result Answer Refusal → ℕ
answer_count (Ok (answer.Header h)) = 0
answer_count (Ok (answer.Stored k)) = k
answer_count (Ok (answer.Packet total)) = total
answer_count (Ok (answer.Stream f l)) = 0
answer_count (Ok answer.Ended) = 0
answer_count (Err why) = 0

abbrev pub no_header : List ℕ
no_header = replicate 30 0

abbrev pub late_header_in : Late → List ℕ
late_header_in Nothing = no_header
late_header_in (Header h) = h
late_header_in Spoiled = no_header

-- the header that an answer carries, or 30 zeros
abbrev pub header_in : Result Answer Refusal → List ℕ
header_in (Ok (answer.Header h)) = h
header_in (Ok (answer.Stored k)) = no_header
header_in (Ok (answer.Packet total)) = no_header
header_in (Ok (answer.Stream f l)) = late_header_in l
header_in (Ok answer.Ended) = no_header
header_in (Err why) = no_header

abbrev pub no_stream : StreamFrame
no_stream = record { lich_idx = 0; lich_part = replicate 5 0; frame_number = 0; end_of_stream = false; stream_data = replicate 16 0 }

-- the stream frame that an answer carries, or zeros
abbrev pub stream_in : Result Answer Refusal → StreamFrame
stream_in (Ok (answer.Header h)) = no_stream
stream_in (Ok (answer.Stored k)) = no_stream
stream_in (Ok (answer.Packet total)) = no_stream
stream_in (Ok (answer.Stream f l)) = f
stream_in (Ok answer.Ended) = no_stream
stream_in (Err why) = no_stream

-- The number of each question in code, and what an answer comes to as a number: 0 is a yes to all. Assumes nothing: these are definitions.
use Rattle.std.specs.Prelude.{◌≡◌, ℕ, ◌<◌, Result, Ok, Err, MatchResult}
use Rattle.questions.specs.declared.fault.Fault.{Fault}
use Rattle.questions.specs.declared.start.StartError.{StartError}
use Rattle.questions.specs.declared.start.UnknownNumber.{UnknownNumber}

abbrev pub fault_number : Fault → ℕ
fault_number Fault.NoDescriptor = 11
fault_number Fault.NotValid = 12
fault_number Fault.RingsOutOfOrder = 13
fault_number Fault.SegmentOutsideMemory = 14
fault_number Fault.WordOutsideSegment = 15
fault_number Fault.NotFetchable = 21
fault_number Fault.NotReadable = 22
fault_number Fault.NotWritable = 23
fault_number Fault.TransferFromOtherRing = 24
fault_number Fault.TransferNotExecutable = 25
fault_number Fault.CallNotExecutable = 26
fault_number Fault.CallNotToGate = 27
fault_number Fault.CallAboveGates = 28
fault_number Fault.CallBelowBracket = 29
fault_number Fault.CallRaisesRing = 30
fault_number Fault.TooManyPointerWords = 31
fault_number Fault.UnknownOpcode = 32
fault_number Fault.Privileged = 33
fault_number Fault.BaseOutsideMemory = 34
fault_number Fault.FrameRingsBelow = 52

abbrev pub start_number : StartError → ℕ
start_number StartError.MemoryTooLarge = 1
start_number StartError.OutOfRange = 2
start_number StartError.RingsBelow = 3
start_number StartError.BaseOutsideMemory = 4

-- that number's question, or it has none
abbrev pub Starts : (number : ℕ) → Result StartError UnknownNumber → Type 0
Starts n r = MatchResult r (λ e. start_number e ≡ n) (λ _. 0 < n → 4 < n)

-- what an answer comes to by its errors' numbers
abbrev pub number_by : {A E : Type 0} → (E → ℕ) → Result A E → ℕ
number_by number (Ok _) = 0
number_by number (Err e) = number e

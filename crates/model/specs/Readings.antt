-- How 01 and 02 are read where they leave a choice (docs/DECISIONS.md), each reading as a fact of the definitions. Assumes nothing: these are definitions.
use Rattle.std.specs.Prelude.{◌≡◌, List, [], ◌∷◌, ◌++◌, ℕ, zero, suc, ◌+◌, ◌*◌, ◌^◌, replicate, drop}
use Rattle.std.proofs.Math.Option.{some}
use Prim.Native.String.{String}
use Rattle.model.specs.Registers.{Registers, Delivery, no_delivery, Machine, machine, with_pr}
use Rattle.model.specs.Words.{Pointer, pointer_word}
use Rattle.model.specs.Opcodes.{Opcode, LDA, STA, AOS, EAP, TRA, TZE, CALL, LDBR, HLT, RCU}
use Rattle.model.specs.Deliver.{step_with}
use Rattle.model.specs.Check.{check}
use Rattle.model.specs.Listing.{ascii, check_line}
use Rattle.model.specs.Notation.{pointer, flag, segment, by_ipr, by_pr, indirect_by_pr, indirect_word, WD_records, image_with, image_of}
use Rattle.model.specs.Brackets.{Row, set_brackets}
use Rattle.model.specs.Old.{Way, from_old, to_old, convert_words}
use Rattle.model.specs.Doors.{doors_listing, doors_text}
use Rattle.model.specs.Needs.{needs_text}
use Rattle.model.specs.Write.{bytes, stored_ST, ST_record}
use Rattle.model.specs.Cases.{step_faults, ipr_becomes, pr_becomes, a_becomes, word_becomes, step_counts, run_lists, delivery_lists, image_prints, image_converts, left_by, Holds, about_to_do, about_to, through_pointer, case_12_registers, case_12, pointers_up, through_pointers}

-- the instruction and one word in segment 1
unfoldable pub doing : (instruction ring segment_1 word : ℕ) → Machine
doing i n d w = about_to_do i n (pointer n 1 0) d (w ∷ [])

-- an instruction with I on, and the pointer words of segment 1, whose LENGTH is given
unfoldable pub through : Opcode → (length : ℕ) → (words : List ℕ) → Machine
through o l ws = about_to_do (indirect_by_pr o 1) 4 (pointer 4 1 0) (segment 3 l 4 4 4 "R V" 0) ws

-- case 12's registers with another DBR
unfoldable pub with_descriptors : (address length : ℕ) → Registers
with_descriptors a l =
    record { a = 0; dbr = record { address = a; length = l }; ipr = case_12_registers.ipr; prs = case_12_registers.prs }

-- what the check says of a pointer
abbrev CheckSays : Machine → Pointer → String → Type 0
CheckSays m p s = check_line (check no_delivery m p) ≡ ascii s

-- what the program says of an image's needs
abbrev NeedsAre : (bytes : List ℕ) → String → Type 0
NeedsAre bs s = needs_text bs ≡ ascii s

-- another pointer in a PR
unfoldable pub holding : (number : ℕ) → Pointer → Machine → Machine
holding k p m = machine (with_pr k p m.registers) m.memory

unfoldable pub started : List ℕ
started = ascii "ME" ++ bytes 4 64 ++ ST_record case_12_registers no_delivery

unfoldable pub ended : List ℕ
ended = ascii "RN" ++ bytes 4 0

-- WD records before ST and after it: of a stored image, and of one of today's
unfoldable pub with_start : (start : List ℕ) → (before after : List (ℕ × ℕ)) → List ℕ
with_start st xs ys = ascii "ME" ++ bytes 4 64 ++ WD_records xs ++ st ++ WD_records ys ++ ended

unfoldable pub stored_one : (before after : List (ℕ × ℕ)) → List ℕ
stored_one xs ys = with_start (stored_ST case_12_registers) xs ys

unfoldable pub todays_one : (before after : List (ℕ × ℕ)) → List ℕ
todays_one xs ys = with_start (ST_record case_12_registers no_delivery) xs ys

-- LDA in ring 4 of word 2 of segment 1, by a pointer of ring 5; that segment, of thirteen words, is the save segment too
unfoldable pub loading : (segment_1 : ℕ) → Machine
loading d = about_to_do (by_pr LDA 1) 4 (pointer 5 1 2) d (replicate 13 0)

unfoldable pub delivering : (switch : ℕ) → Delivery
delivering n = record { switch = n; save = 1; handler = 3 }

-- RCU in ring 0 of the frame in segment 1: A 5, a DBR word, IPR in ring 4, PR0 in a given ring, PR7 in ring 5, and I on in two words
unfoldable pub restoring : (segment_1 dbr_word pr0_ring : ℕ) → Machine
restoring d b n =
    let p = pointer_word (pointer 4 0 0) in
    about_to_do (by_pr RCU 1) 0 (pointer 0 1 0) d
    (0 ∷ 0 ∷ 5 ∷ b ∷ indirect_word (pointer 4 0 1) ∷ pointer_word (pointer n 0 9) ∷ p ∷ p ∷ p ∷ p ∷ p ∷ p ∷ indirect_word (pointer 5 2 3) ∷ [])

-- a table's row, its flags by their letters; and what a table of a descriptor segment at word 1 of a memory of 40 words answers
unfoldable pub row : (first last r1 r2 r3 : ℕ) → (flags : String) → Row
row a b x y z s = record { first = a; last = b; r1 = x; r2 = y; r3 = z; read = flag "R" s; write = flag "W" s; execute = flag "E" s }

unfoldable pub rows_of_one : (count first : ℕ) → List Row
rows_of_one zero a = []
rows_of_one (suc n) a = row a a 0 0 0 "" ∷ rows_of_one n (suc a)

abbrev TableAnswers : (length : ℕ) → List Row → (number : ℕ) → Type 0
TableAnswers l rows n = (set_brackets (replicate 40 0) (record { address = 1; length = l }) rows).answer ≡ n

-- an old descriptor, at address 5 with 3 words; and what a segment of words answers
unfoldable pub old_segment : (flags : ℕ) → ℕ
old_segment f = 5 + 3 * 2 ^ 24 + f * 2 ^ 40

abbrev WordsAnswerWith : Way → List ℕ → (number index : ℕ) → Type 0
WordsAnswerWith y ws n k = (convert_words y ws).answer ≡ record { number = n; index = k }

-- a machine's list of doors
abbrev DoorsAre : Delivery → Machine → String → Type 0
DoorsAre v m s = doors_listing v m ≡ ascii s

pub record Readings : Type 0 where
  -- IMAGES are judged record by record: a bad record's number comes before anything that a later record would get
  pub empty_file_is_42 : Holds (image_prints [] "refused 42\n")
  pub file_without_RN_is_42 : Holds (image_prints started "refused 42\n")
  pub stray_byte_at_a_record's_start_is_41 : Holds (image_prints (started ++ (87 ∷ [])) "refused 41\n")
  pub stray_byte_after_RN_is_42 : Holds (image_prints (started ++ ended ++ (87 ∷ [])) "refused 42\n")
  pub earlier_record's_44_comes_before_41 : Holds (image_prints (started ++ WD_records ((64, 0) ∷ []) ++ (87 ∷ [])) "refused 44\n")
  pub second_ME_is_42 : Holds (image_prints (started ++ started) "refused 42\n")
  pub second_ST_is_42 : Holds (image_prints (started ++ ST_record case_12_registers no_delivery ++ ended) "refused 42\n")
  pub RN_before_ST_is_42 : Holds (image_prints (ascii "ME" ++ bytes 4 64 ++ ended) "refused 42\n")
  pub WD_before_ME_is_42 : Holds (image_prints (WD_records ((0, 0) ∷ []) ++ started ++ ended) "refused 42\n")
  pub ME_above_8192_is_43 : Holds (image_prints (ascii "ME" ++ bytes 4 8193) "refused 43\n")
  -- 51: A SECOND WD for an address is refused, next to the first or not, its word equal or not; 44 comes before it, and 1 to 4 after it
  pub second_WD_is_51 : Holds (image_prints (started ++ WD_records ((4, 1) ∷ (5, 0) ∷ (4, 2) ∷ []) ++ ended) "refused 51\n")
  pub equal_WD_is_51 : Holds (image_prints (started ++ WD_records ((4, 1) ∷ (4, 1) ∷ []) ++ ended) "refused 51\n")
  pub second_WD_outside_is_44 : Holds (image_prints (started ++ WD_records ((64, 0) ∷ (64, 0) ∷ []) ++ ended) "refused 44\n")
  pub second_WD_comes_before_4 :
      Holds (image_prints (ascii "ME" ++ bytes 4 2 ++ ST_record case_12_registers no_delivery ++ WD_records ((1, 0) ∷ (1, 0) ∷ []) ++ ended) "refused 51\n")
  -- STORED IMAGES: the last of each address is kept where it stands, ST too; a refused one gives only its number
  pub last_WD_is_kept : Holds (image_converts (stored_one ((4, 1) ∷ (5, 2) ∷ []) ((4, 3) ∷ (3, 4) ∷ [])) (todays_one ((5, 2) ∷ []) ((4, 3) ∷ (3, 4) ∷ [])))
  pub stored_44_is_refused : Holds (image_converts (stored_one ((4, 1) ∷ []) ((4, 3) ∷ (64, 4) ∷ [])) (ascii "refused 44\n"))
  pub stored_4_is_refused : Holds (image_converts (image_with 64 (stored_ST (with_descriptors 65 0)) [] 1) (ascii "refused 4\n"))
  pub todays_is_not_stored : Holds (image_converts (todays_one [] []) (ascii "refused 41\n"))
  -- WITHIN MEMORY with LENGTH 0 lets ADDRESS equal the memory's length, and no more: 4, and 34
  pub empty_descriptor_segment_at_the_end_passes_4 : Holds (image_prints (image_of 64 (with_descriptors 64 0) [] 1) "fault 11 0 4 4 0 0\n")
  pub empty_descriptor_segment_past_the_end_is_4 : Holds (image_prints (image_of 64 (with_descriptors 65 0) [] 1) "refused 4\n")
  pub LDBR_of_the_end_passes_34 : Holds (ipr_becomes (doing (by_pr LDBR 1) 0 (segment 3 1 0 0 0 "R V" 0) 4) (pointer 0 0 1))
  pub LDBR_past_the_end_is_34 : Holds (step_faults (doing (by_pr LDBR 1) 0 (segment 3 1 0 0 0 "R V" 0) 5) 34 (pointer 0 1 0))
  -- 11 TO 15 come before every question by use, 24 included
  pub V_off_comes_before_24 : Holds (step_faults (about_to TRA 4 5 0 (segment 3 4 4 5 5 "E" 0)) 12 (pointer 5 1 0))
  pub another_ring_is_24 : Holds (step_faults (about_to TRA 4 5 0 (segment 3 4 4 5 5 "E V" 0)) 24 (pointer 5 1 0))
  -- SAME SEGMENT in 27 is equal SEGNO, and not the same words
  pub call_within_the_segment_needs_no_gate : Holds (ipr_becomes (doing (by_ipr CALL 0) 4 0 0) (pointer 4 0 0))
  pub same_words_by_another_segment_is_27 : Holds (step_faults (doing (by_pr CALL 1) 4 (segment 2 1 4 4 4 "E V" 0) 0) 27 (pointer 4 1 0))
  pub new_ring_is_TPR's_below_R2 : Holds (ipr_becomes (about_to CALL 4 4 1 (segment 3 4 2 5 5 "E V" 2)) (pointer 4 1 1))
  -- PR7 AFTER CALL: where the new ring is IPR's, whatever TPR's is, it has PR6's segment and nothing else of PR6; else the new ring's number (02, L6)
  pub PR7_in_PR6's_segment : Holds (pr_becomes (holding 6 (pointer 5 9 3) (doing (by_ipr CALL 0) 4 0 0)) 7 (pointer 4 9 0))
  pub PR7_in_PR6's_segment_though_TPR_is_above : Holds (pr_becomes (holding 6 (pointer 5 9 3) (about_to CALL 4 5 1 (segment 3 4 2 4 5 "E V" 2))) 7 (pointer 4 9 0))
  pub PR7_in_the_lower_ring's_segment : Holds (pr_becomes (holding 6 (pointer 5 9 3) (about_to CALL 4 4 1 (segment 3 4 1 2 5 "E V" 2))) 7 (pointer 2 2 0))
  -- EAP AND A TRANSFER NOT TAKEN ask nothing of the target, yet every pointer word on the way is asked
  pub EAP_of_an_unreadable_target : Holds (pr_becomes (about_to EAP 4 4 2 0) 5 (pointer 4 1 2))
  pub TZE_not_taken : Holds (ipr_becomes (about_to TZE 4 4 2 0) (pointer 4 0 1))
  pub unreadable_pointer_word_of_TZE_is_22 : Holds (step_faults (doing (indirect_by_pr TZE 1) 4 (segment 3 1 4 4 4 "W V" 0) 0) 22 (pointer 4 1 0))
  -- AOS asks 22, then 23, before it stores
  pub AOS_stores : Holds (word_becomes (about_to AOS 4 4 2 (segment 3 4 4 4 4 "R W V" 0)) 5 13)
  pub AOS_without_W_is_23 : Holds (step_faults (about_to AOS 4 4 2 (segment 3 4 4 4 4 "R V" 0)) 23 (pointer 4 1 2))
  pub AOS_without_R_and_W_is_22 : Holds (step_faults (about_to AOS 4 4 2 (segment 3 4 4 4 4 "V" 0)) 22 (pointer 4 1 2))
  -- 32 AND 33 have IPR's address
  pub unknown_opcode_is_32 : Holds (step_faults (doing 0 4 0 0) 32 (pointer 4 0 0))
  pub HLT_above_ring_0_is_33 : Holds (step_faults (doing (by_pr HLT 1) 4 0 0) 33 (pointer 4 0 0))
  -- HLT advances IPR and has its step line
  pub HLT_is_listed : Holds (run_lists 5 (doing (by_pr HLT 1) 0 0 0) "1 0 0 1 0\nhalted 1 0\n")
  pub no_budget_is_spent : Holds (run_lists 0 (doing (by_pr HLT 1) 0 0 0) "spent 0 0\n")
  -- POINTER WORDS are counted once they are read (02, L2), whatever comes after them; none before the address
  pub through_one_has_1 : Holds (step_counts (through_pointer (segment 3 1 3 3 3 "R V" 0)) 1)
  pub through_64_has_64 : Holds (step_counts (through_pointers 64) 64)
  pub third_is_15 : Holds (step_faults (through LDA 2 (pointers_up 3 0)) 15 (pointer 4 1 2))
  pub third_unread_has_2 : Holds (step_counts (through LDA 2 (pointers_up 3 0)) 2)
  pub across_segments_has_2 : Holds (step_counts (through EAP 1 (indirect_word (pointer 4 0 0) ∷ [])) 2)
  pub fault_31_has_64 : Holds (step_counts (through_pointers 65) 64)
  pub target_is_23 : Holds (step_faults (through STA 1 (pointer_word (pointer 4 0 0) ∷ [])) 23 (pointer 4 0 0))
  pub target_unwritten_has_1 : Holds (step_counts (through STA 1 (pointer_word (pointer 4 0 0) ∷ [])) 1)
  pub HLT_with_I_on_has_0 : Holds (step_counts (through HLT 1 (0 ∷ [])) 0)
  -- a run's total is the sum over its step lines, and a faulting step isn't in it
  pub totals_are_sums : Holds (run_lists 3 (through TRA 1 (pointer_word (pointer 4 0 0) ∷ [])) "1 4 0 0 1\n2 4 0 0 1\n3 4 0 0 1\nspent 3 3\n")
  pub faulting_step_is_not_in_the_total : Holds (run_lists 1 (through_pointers 65) "fault 31 0 4 1 64 0\n")
  -- A FAULT IS DELIVERED (02, L4) to a save segment of thirteen words with W on, in whatever ring; that is a step
  pub unsaved_in_12_words : Holds (delivery_lists (delivering 1) 1 (loading (segment 3 12 0 0 0 "W V" 0)) "fault 22 0 5 1 2 0\n")
  pub unsaved_without_W : Holds (delivery_lists (delivering 1) 1 (loading (segment 3 13 0 0 0 "V" 0)) "fault 22 0 5 1 2 0\n")
  pub unsaved_without_V : Holds (delivery_lists (delivering 1) 1 (loading (segment 3 13 0 0 0 "W" 0)) "fault 12 0 5 1 2 0\n")
  pub unsaved_with_the_switch_off : Holds (delivery_lists (delivering 0) 1 (loading (segment 3 13 0 0 0 "W V" 0)) "fault 22 0 5 1 2 0\n")
  pub switch_of_2_is_2 : Holds (delivery_lists (delivering 2) 1 (loading (segment 3 13 0 0 0 "W V" 0)) "refused 2\n")
  pub delivered_in_ring_0's_segment : Holds (delivery_lists (delivering 1) 1 (loading (segment 3 13 0 0 0 "W V" 0)) "1 0 3 0 0\nspent 1 0\n")
  -- the frame: number, address under question, A, DBR, IPR and PR0 to PR7
  pub delivered_frame :
      left_by (λ k. drop 3 k.memory) (step_with (delivering 1) (loading (segment 3 13 0 0 0 "W V" 0)))
      ≡ some (22 ∷ 1342242818 ∷ 7 ∷ 33554432 ∷ 1073741824 ∷ 1073741824 ∷ 1342242818 ∷ 1073741824 ∷ 1073741824 ∷ 1073741824 ∷ 1073741824 ∷ 1073741824 ∷ 1073741824 ∷ [])
  -- RCU asks 15 of all thirteen words, 22, 34 and 52, in that order and of TPR; IPR becomes the frame's, not the word after
  pub RCU_above_ring_0_is_33 : Holds (step_faults (doing (by_pr RCU 1) 4 0 0) 33 (pointer 4 0 0))
  pub RCU_of_12_words_is_15 : Holds (step_faults (restoring (segment 3 12 0 0 0 "V" 0) 17 3) 15 (pointer 0 1 0))
  pub RCU_without_R_is_22 : Holds (step_faults (restoring (segment 3 13 0 0 0 "V" 0) 17 3) 22 (pointer 0 1 0))
  pub RCU_of_a_DBR_past_the_end_is_34 : Holds (step_faults (restoring (segment 3 13 0 0 0 "R V" 0) 17 3) 34 (pointer 0 1 0))
  pub RCU_of_PR0_below_IPR_is_52 : Holds (step_faults (restoring (segment 3 13 0 0 0 "R V" 0) 16 3) 52 (pointer 0 1 0))
  pub RCU_takes_A : Holds (a_becomes (restoring (segment 3 13 0 0 0 "R V" 0) 16 4) 5)
  pub RCU_takes_IPR : Holds (ipr_becomes (restoring (segment 3 13 0 0 0 "R V" 0) 16 4) (pointer 4 0 1))
  pub RCU_takes_PR0 : Holds (pr_becomes (restoring (segment 3 13 0 0 0 "R V" 0) 16 4) 0 (pointer 4 0 9))
  pub RCU_takes_PR7 : Holds (pr_becomes (restoring (segment 3 13 0 0 0 "R V" 0) 16 4) 7 (pointer 5 2 3))
  -- CALL'S CHECK (02, L5) of any pointer: 2 of it comes before 3, its ring is raised, and 27 goes by IPR's segment
  pub check_at_a_gate_passes : CheckSays case_12 (pointer 0 5 0) "passes 1\n"
  pub check_within_the_segment_passes : CheckSays case_12 (pointer 0 4 7) "passes 4\n"
  pub check_behind_the_gates_is_27 : CheckSays case_12 (pointer 0 5 1) "fault 27 4 5 1\n"
  pub check_of_ring_8_is_2 : CheckSays case_12 (pointer 8 5 0) "refused 2\n"
  pub check_of_segment_4096_is_2 : CheckSays (holding 0 (pointer 0 0 0) case_12) (pointer 0 4096 0) "refused 2\n"
  pub check_with_a_low_PR_is_3 : CheckSays (holding 0 (pointer 0 0 0) case_12) (pointer 0 5 0) "refused 3\n"
  pub check_of_a_ring_above_IPR's_is_30 : CheckSays (about_to CALL 4 4 1 (segment 3 4 5 6 6 "E V" 2)) (pointer 5 1 1) "fault 30 5 1 1\n"
  -- A TABLE (02, L8): 4 comes before 53, 53 before 54 and 55, of which the lowest segment at fault decides
  pub table_past_the_end_is_4 : TableAnswers 40 (row 40 40 0 0 8 "" ∷ []) 4
  pub row_up_to_LENGTH_is_53 : TableAnswers 2 (row 0 2 0 0 0 "" ∷ []) 53
  pub row_of_R3_8_is_53 : TableAnswers 2 (row 0 0 0 0 8 "" ∷ []) 53
  pub row_of_R1_above_R2_is_53 : TableAnswers 2 (row 0 1 3 2 4 "" ∷ []) 53
  pub row_backwards_is_53 : TableAnswers 2 (row 0 1 0 0 0 "" ∷ row 1 0 0 0 0 "" ∷ []) 53
  pub rows_33_are_53 : TableAnswers 33 (rows_of_one 33 0) 53
  pub rows_32_are_accepted : TableAnswers 32 (rows_of_one 32 0) 0
  pub lower_54_comes_before_55 : TableAnswers 3 (row 1 2 0 0 0 "" ∷ row 2 2 0 0 0 "" ∷ []) 54
  pub lower_55_comes_before_54 : TableAnswers 3 (row 0 1 0 0 0 "" ∷ row 1 1 0 0 0 "" ∷ []) 55
  pub no_rows_for_no_segments : TableAnswers 0 [] 0
  -- it sets six fields, and keeps the others: of a descriptor with every bit on, and of one with none
  pub table_sets_six_fields :
      (set_brackets (7 ∷ 18446744073709551615 ∷ 0 ∷ 9 ∷ []) (record { address = 1; length = 2 }) (row 0 1 1 2 3 "R E" ∷ [])).memory
      ≡ 7 ∷ 18445286121291120639 ∷ 3044547697311744 ∷ 9 ∷ []
  pub refused_table_writes_nothing : (set_brackets (0 ∷ 0 ∷ []) (record { address = 0; length = 2 }) (row 0 0 1 1 1 "R" ∷ [])).memory ≡ 0 ∷ 0 ∷ []
  -- OLD DESCRIPTORS (02, L9): bits 40 to 43 are R, W, E and user, the bits above them 56; of today's 57 asks V, GATE and rings
  pub old_user_gets_rings_4 : (convert_words from_old (old_segment 9 ∷ [])).words ≡ segment 5 3 4 4 4 "R V" 0 ∷ []
  pub old_system_gets_rings_0 : (convert_words from_old (old_segment 6 ∷ [])).words ≡ segment 5 3 0 0 0 "W E V" 0 ∷ []
  pub bit_44_is_56 : WordsAnswerWith from_old (old_segment 16 ∷ []) 56 0
  pub bit_63_is_56 : WordsAnswerWith from_old (2 ^ 63 ∷ []) 56 0
  pub renewed_goes_back : (convert_words to_old (segment 5 3 4 4 4 "R E V" 0 ∷ [])).words ≡ old_segment 13 ∷ []
  pub V_off_is_57 : WordsAnswerWith to_old (segment 5 3 4 4 4 "R" 0 ∷ []) 57 0
  pub a_gate_is_57 : WordsAnswerWith to_old (segment 5 3 0 0 0 "E V" 1 ∷ []) 57 0
  pub rings_4_4_5_are_57 : WordsAnswerWith to_old (segment 5 3 4 4 5 "V" 0 ∷ []) 57 0
  pub no_words_convert : WordsAnswerWith to_old [] 0 0
  -- the first that fails decides, and nothing is written then
  pub first_failing_decides : WordsAnswerWith from_old (0 ∷ old_segment 16 ∷ 0 ∷ old_segment 32 ∷ []) 56 1
  pub failing_segment_stays : (convert_words from_old (0 ∷ old_segment 16 ∷ [])).words ≡ 0 ∷ old_segment 16 ∷ []
  -- THE DOORS (02, L10): R3 above R2, E on and a gate that the segment has; then, with the switch on, where a fault leads
  pub gate_is_a_door : DoorsAre no_delivery case_12 "door 5 0 2 5 1\ndoors 1\n"
  pub gates_past_the_end_are_no_door : DoorsAre (delivering 1) (about_to CALL 4 4 1 (segment 3 4 1 2 5 "E V" 9)) "door 1 3 3 5 2\nfaults 1 3\ndoors 1\n"
  pub gate_without_an_extension_is_no_door : DoorsAre no_delivery (about_to CALL 4 4 1 (segment 3 4 2 5 5 "E V" 2)) "doors 0\n"
  pub refused_image_has_no_doors : doors_text [] ≡ ascii "refused 42\n"
  -- AN IMAGE'S NEEDS (02, L12): the WD records are counted and no other, 51 is asked, and 4 with ME's number as memory's size
  pub needs_of_three_words : NeedsAre (started ++ WD_records ((4, 1) ∷ (5, 0) ∷ (6, 2) ∷ []) ++ ascii "RN" ++ bytes 4 9) "memory 64\nrecords 3\nbudget 9\nlines 10\npointers 576\n"
  pub needs_of_no_steps : NeedsAre (image_of 64 (with_descriptors 64 0) [] 0) "memory 64\nrecords 0\nbudget 0\nlines 1\npointers 0\n"
  pub needs_of_a_second_WD_are_51 : NeedsAre (started ++ WD_records ((4, 1) ∷ (4, 1) ∷ []) ++ ended) "refused 51\n"
  pub needs_past_the_end_are_4 : NeedsAre (image_of 64 (with_descriptors 65 0) [] 1) "refused 4\n"
  -- WORD NUMBERS go round from 65,535 to 0
  pub offset_goes_round : Holds (pr_becomes (about_to_do (by_pr EAP 1 + 3) 4 (pointer 4 1 65535) 0 []) 5 (pointer 4 1 2))

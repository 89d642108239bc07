-- A line `unfolding by_computation` lets every definition of the machine compute. Assumes nothing.
use Rattle.model.specs.Words.{field, on, descriptor_in, pointer_in, indirect_in, pointer_word, instruction_in}
use Rattle.model.specs.Registers.{machine, pr, dbr_in, dbr_word, with_a, with_dbr, with_ipr, with_prs, with_pr, moved_by, with_ring_at_least, advanced}
use Rattle.model.specs.Opcodes.{bitwise, count_of_ones, sum, difference, LDA, STA, ADA, SBA, ANA, ORA, XRA, CNT, AOS, LDI, EAP, SPP, TRA, TZE, TMI, CALL, RETURN, LDBR, HLT, RCU, opcodes, entry, decoded}
use Rattle.model.specs.Questions.{ask, then_ask, all, memory_fits, pointer_in_range, delivery_in_range, registers_in_range, rings_at_least, dbr_fits, start_questions, segment_questions, word_questions, use_questions, may_execute, may_read, may_write, fetch_questions, read_questions, part_questions, write_questions, return_questions, transfer_questions, new_ring, call_questions}
use Rattle.model.specs.Program.{descriptor_of, absolute_address, word_at, use_answer, or_fault, execute, unless_fault, ticks}
use Rattle.model.specs.Reach.{is_descriptor_word, covers, segment_passes, observable_through, writable_through, some_below, observable, writable}
use Rattle.model.specs.Step.{first_address, next_address, chain, with_operand, stack_base, called, returned, load, store, update, transfer, check_call, call, return, if_dbr_fits, load_dbr, read_words, registers_in, take_up, restore, perform, obey, step_program, step, pointer_words}
use Rattle.model.specs.Deliver.{frame, with_words, can_save, delivers, saved, deliver, step_with, is_delivered}
use Rattle.model.specs.Run.{ran, unless_refused, run_on, run_from, run, after, stepped, stepped_to, single_step, trace_on, traced, trace_from, trace, total_of, total, stretch_on, stretch_from, stretch}
use Rattle.model.specs.Check as Check
use Rattle.model.specs.Check.{answered, check_questions, check}
use Rattle.model.specs.Answers.{numbers, reply_numbers, step_numbers, check_numbers}
use Rattle.model.specs.Image.{marked, mark_of, start_size, record_size, big_endian, number_at, pointer_at, pointers_at, registers_at, delivery_at, has, or_else, memory_of, machine_of, in_order, memory_allowed, address_allowed, unless_written, address_new, record_questions, with_written, words_with, with_word, with_record, checked, record_on, whole_record_on, marked_on, bytes_on, image_from, image_after, image, stored_image}
use Rattle.model.specs.Listing.{ascii, digits, decimal, line, step_line, step_lines, refusal_line, last_line, check_line, listing, image_listing, image_text}
use Rattle.model.specs.Bench.{negated, call_refused, call_wrote, bench_on, bench}
use Rattle.model.specs.Convert.{size_by, front_size, records_from, records, joined, left_over, is_word, writes, some_writes, superseded, last_of_each, added, renewed, compacted, convert_on, convert_after, convert}
use Rattle.model.specs.Write.{bytes, pointer_bytes, pointers_bytes, ME_record, stored_ST, delivery_bytes, ST_record, WD_record, RN_record, word_records, written_image}
use Rattle.model.specs.Brackets.{in_row, rows_of, row_fits, table_fits, one_row, segments_questions, table_questions, flag_bit, bracket_bits, with_brackets, by_row, with_rows, set_brackets, bracketed_text, image_bracketed, row_at, rows_at, brackets_text}
use Rattle.model.specs.Old.{old_descriptor_in, rest_is_zero, rings_are, has_old_form, form_questions, renewed_word, old_word, converted_word, or_fails, words_answer, convert_words, words_at, words_bytes, converted_text, words_text}
use Rattle.model.specs.Doors.{has_extension, leads_down, is_door, door, doors_from, doors, door_line, door_lines, faults_line, doors_line, doors_listing, image_doors, doors_text}
use Rattle.model.specs.Needs.{needs_refused, needs_of, word_count, needs_on, image_needs, need_line, needs_lines, needs_text}
use Rattle.model.specs.Notation.{pointer, has_letter, flag, segment, literal, by_ipr, by_pr, indirect_by_pr, indirect_word, storing, WD_records, image_with, image_of}

unfoldable pub by_computation : Unit {0}
unfolding field on descriptor_in pointer_in indirect_in pointer_word instruction_in machine pr dbr_in dbr_word with_a with_dbr with_ipr with_prs with_pr moved_by with_ring_at_least advanced bitwise count_of_ones sum difference LDA STA ADA SBA ANA ORA XRA CNT AOS LDI EAP SPP TRA TZE TMI CALL RETURN LDBR HLT RCU opcodes entry decoded ask then_ask all memory_fits pointer_in_range delivery_in_range registers_in_range rings_at_least dbr_fits start_questions segment_questions word_questions use_questions may_execute may_read may_write fetch_questions read_questions part_questions write_questions return_questions transfer_questions new_ring call_questions descriptor_of absolute_address word_at use_answer or_fault execute unless_fault ticks is_descriptor_word covers segment_passes observable_through writable_through some_below observable writable first_address next_address chain with_operand stack_base called returned load store update transfer check_call call return if_dbr_fits load_dbr read_words registers_in take_up restore perform obey step_program step pointer_words frame with_words can_save delivers saved deliver step_with is_delivered ran unless_refused run_on run_from run after stepped stepped_to single_step trace_on traced trace_from trace total_of total stretch_on stretch_from stretch answered Check.checked check_questions check numbers reply_numbers step_numbers check_numbers marked mark_of start_size record_size big_endian number_at pointer_at pointers_at registers_at delivery_at has or_else memory_of machine_of in_order memory_allowed address_allowed unless_written address_new record_questions with_written words_with with_word with_record checked record_on whole_record_on marked_on bytes_on image_from image_after image stored_image ascii digits decimal line step_line step_lines refusal_line last_line check_line listing image_listing image_text negated call_refused call_wrote bench_on bench size_by front_size records_from records joined left_over is_word writes some_writes superseded last_of_each added renewed compacted convert_on convert_after convert pointer has_letter flag segment literal by_ipr by_pr indirect_by_pr indirect_word storing bytes pointer_bytes pointers_bytes ME_record stored_ST delivery_bytes ST_record WD_record RN_record word_records written_image in_row rows_of row_fits table_fits one_row segments_questions table_questions flag_bit bracket_bits with_brackets by_row with_rows set_brackets bracketed_text image_bracketed row_at rows_at brackets_text old_descriptor_in rest_is_zero rings_are has_old_form form_questions renewed_word old_word converted_word or_fails words_answer convert_words words_at words_bytes converted_text words_text has_extension leads_down is_door door doors_from doors door_line door_lines faults_line doors_line doors_listing image_doors doors_text needs_refused needs_of word_count needs_on image_needs need_line needs_lines needs_text WD_records image_with image_of
by_computation = tt

-- The thirteen cases and the readings of 01 hold of the definitions, by computation. Assumes nothing.
use mathlib.Core.Path.{refl}
use Rattle.model.specs.Run.{single_count}
use Rattle.model.specs.Cases.{left_by, Holds, about_to_do, about_to, gated, through_pointer, returning, case_12_registers, case_12_words, case_12, pointers_up, through_pointers, case, thirteen, AllHold, CasesHold}
use Rattle.model.specs.Readings.{doing, through, with_descriptors, holding, started, ended, with_start, stored_one, todays_one, loading, delivering, restoring, row, old_segment, rows_of_one, Readings}
use Rattle.model.proofs.Computing.{by_computation}

pub thirteen_cases_hold : CasesHold thirteen
unfolding by_computation left_by Holds about_to_do about_to gated through_pointer returning case_12_registers case_12_words case_12 pointers_up through_pointers case thirteen AllHold CasesHold
thirteen_cases_hold = (
  -- case 1
  ((refl, refl), tt),
  (
    -- case 2
    (refl, tt),
    (
      -- case 3
      (refl, (refl, tt)),
      (
        -- case 4
        (refl, tt),
        (
          -- case 5
          (refl, tt),
          (
            -- case 6
            (refl, tt),
            (
              -- case 7
              (refl, tt),
              (
                -- case 8
                (refl, (refl, tt)),
                (
                  -- case 9
                  (refl, (refl, tt)),
                  (
                    -- case 10
                    (refl, (refl, tt)),
                    (
                      -- case 11
                      (refl, (refl, (refl, tt))),
                      (
                        -- case 12
                        (refl, (refl, tt)),
                        -- case 13
                        ((refl, (refl, tt)), tt),
                      ),
                    ),
                  ),
                ),
              ),
            ),
          ),
        ),
      ),
    ),
  ),
)

pub readings_hold : Readings
unfolding by_computation single_count left_by Holds about_to_do about_to through_pointer case_12_registers case_12_words case_12 pointers_up through_pointers doing through with_descriptors holding started ended with_start stored_one todays_one loading delivering restoring row old_segment rows_of_one
readings_hold =
    record {
      empty_file_is_42 = refl;
      file_without_RN_is_42 = refl;
      stray_byte_at_a_record's_start_is_41 = refl;
      stray_byte_after_RN_is_42 = refl;
      earlier_record's_44_comes_before_41 = refl;
      second_ME_is_42 = refl;
      second_ST_is_42 = refl;
      RN_before_ST_is_42 = refl;
      WD_before_ME_is_42 = refl;
      ME_above_8192_is_43 = refl;
      second_WD_is_51 = refl;
      equal_WD_is_51 = refl;
      second_WD_outside_is_44 = refl;
      second_WD_comes_before_4 = refl;
      last_WD_is_kept = refl;
      stored_44_is_refused = refl;
      stored_4_is_refused = refl;
      todays_is_not_stored = refl;
      empty_descriptor_segment_at_the_end_passes_4 = refl;
      empty_descriptor_segment_past_the_end_is_4 = refl;
      LDBR_of_the_end_passes_34 = refl;
      LDBR_past_the_end_is_34 = refl;
      V_off_comes_before_24 = refl;
      another_ring_is_24 = refl;
      call_within_the_segment_needs_no_gate = refl;
      same_words_by_another_segment_is_27 = refl;
      new_ring_is_TPR's_below_R2 = refl;
      PR7_in_PR6's_segment = refl;
      PR7_in_PR6's_segment_though_TPR_is_above = refl;
      PR7_in_the_lower_ring's_segment = refl;
      EAP_of_an_unreadable_target = refl;
      TZE_not_taken = refl;
      unreadable_pointer_word_of_TZE_is_22 = refl;
      AOS_stores = refl;
      AOS_without_W_is_23 = refl;
      AOS_without_R_and_W_is_22 = refl;
      unknown_opcode_is_32 = refl;
      HLT_above_ring_0_is_33 = refl;
      HLT_is_listed = refl;
      no_budget_is_spent = refl;
      through_one_has_1 = refl;
      through_64_has_64 = refl;
      third_is_15 = refl;
      third_unread_has_2 = refl;
      across_segments_has_2 = refl;
      fault_31_has_64 = refl;
      target_is_23 = refl;
      target_unwritten_has_1 = refl;
      HLT_with_I_on_has_0 = refl;
      totals_are_sums = refl;
      faulting_step_is_not_in_the_total = refl;
      unsaved_in_12_words = refl;
      unsaved_without_W = refl;
      unsaved_without_V = refl;
      unsaved_with_the_switch_off = refl;
      switch_of_2_is_2 = refl;
      delivered_in_ring_0's_segment = refl;
      delivered_frame = refl;
      RCU_above_ring_0_is_33 = refl;
      RCU_of_12_words_is_15 = refl;
      RCU_without_R_is_22 = refl;
      RCU_of_a_DBR_past_the_end_is_34 = refl;
      RCU_of_PR0_below_IPR_is_52 = refl;
      RCU_takes_A = refl;
      RCU_takes_IPR = refl;
      RCU_takes_PR0 = refl;
      RCU_takes_PR7 = refl;
      check_at_a_gate_passes = refl;
      check_within_the_segment_passes = refl;
      check_behind_the_gates_is_27 = refl;
      check_of_ring_8_is_2 = refl;
      check_of_segment_4096_is_2 = refl;
      check_with_a_low_PR_is_3 = refl;
      check_of_a_ring_above_IPR's_is_30 = refl;
      table_past_the_end_is_4 = refl;
      row_up_to_LENGTH_is_53 = refl;
      row_of_R3_8_is_53 = refl;
      row_of_R1_above_R2_is_53 = refl;
      row_backwards_is_53 = refl;
      rows_33_are_53 = refl;
      rows_32_are_accepted = refl;
      lower_54_comes_before_55 = refl;
      lower_55_comes_before_54 = refl;
      no_rows_for_no_segments = refl;
      table_sets_six_fields = refl;
      refused_table_writes_nothing = refl;
      old_user_gets_rings_4 = refl;
      old_system_gets_rings_0 = refl;
      bit_44_is_56 = refl;
      bit_63_is_56 = refl;
      renewed_goes_back = refl;
      V_off_is_57 = refl;
      a_gate_is_57 = refl;
      rings_4_4_5_are_57 = refl;
      no_words_convert = refl;
      first_failing_decides = refl;
      failing_segment_stays = refl;
      gate_is_a_door = refl;
      gates_past_the_end_are_no_door = refl;
      gate_without_an_extension_is_no_door = refl;
      refused_image_has_no_doors = refl;
      needs_of_three_words = refl;
      needs_of_no_steps = refl;
      needs_of_a_second_WD_are_51 = refl;
      needs_past_the_end_are_4 = refl;
      offset_goes_round = refl;
    }

-- The key: a proof by computation says `unfolding computing`, and every definition of the model unfolds there. A proof
-- about one definition names that definition, and the others stay shut.
-- Assumes nothing.
use Rattle.lists.specs.Lists.{repeated, same_numbers}
use Rattle.lists.specs.Ordered.{order, put, put_all}
use Rattle.lists.specs.Front.{front}
use Rattle.model.specs.Plan.{unit, units}
use Rattle.model.specs.Activity.{conjunction, may_carry, runs_next, may_run_first, may_run, active, carries}
use Rattle.model.specs.Bus.{slot_ticks, slot_among, slot_of, offset_among, offset, first_beginning, begins, beginning, sender, row_node, row_bytes, transit}
use Rattle.model.specs.Log.{span, over, known, message_ready, broadcast_ready, delivered, process_end, delay}
use Rattle.model.specs.Planning.{urgencies_from, urgencies, weights_by, weights, dispatch_order, queue, view, never, comes, ready, occupies, free, candidate, unit_starts, starts, waits_to_broadcast, waits_to_send, pending, pack, takes, passes_over, sends, step, before, planned}
use Rattle.model.specs.Refusals.{or_else, outside, wrong_counts, wrong_plan, wrong_slot, wrong_edge, wrong_ticks, wrong_sizes, no_node, wrong_nodes, no_process, wrong_deciders, wrong_ends, twin_edges, undecided, wrong_when, too_long, plan_refusal}
use Rattle.model.specs.Table.{bits_met, bits_within, column_met, entry_of, key, one_of_two, plans, made_entries, row_entries, frame_of, frame_key, wider, frames, passed_by, passing_slots, pass_over_count, result, answered, room_refusal, plan_answer, table_after, frames_after, counts_after}
use Rattle.model.specs.Checking.{ill_formed, met_entries, met_log, due, miscounted, not_once, column_unknown, uses_unknown, missing, placed_early, too_early, off_beginning, off_slot, apart, run_together, overlap, past_end, lie_together, share_byte, greatest_delay, in_some, table_refusal, check}
use Rattle.model.specs.Lookup.{before_row, run_of_row, row_length, row_start, row_part, fits, find, unless, lookup}
use Rattle.model.specs.Text.{digits, decimal, field, pick_text, waits_text, when_text, slot_line, process_line, condition_line, edge_line, plan_line, print, short, when_numbers, numbers, after_refusal, unless_refused, fitting, write_plan, bytes_after}
use Rattle.model.specs.Listing.{bit, value_text, column_text, place_text, entry_line, frame_line, refused_line, passed_line, passed_lines, listing, words_listing, printed, program_prints, plan_listing, listing_refusal, list_plan, list_reading}
use Rattle.model.specs.ListingText.{listable, rows_in_order, listing_numbers, listed_words, listed_frames, listed_counts, other_frames, other_counts, stated_refusal, listed_refusal, before_empty, after_empty, plan_part, listing_part, check_prints}
use Rattle.model.specs.Firmware.{found_number, found_in}
use Rattle.model.specs.Run.{calls, told_when_ready, told, sent_when_ready, counting, hears, given, tick_log, run_before}
use Rattle.model.specs.Demand.{starts_of, delivers}
use Rattle.model.specs.Seasons.{days_in, no_day, in_year, has_day, has_minute, window_applies, plan_for, wrong_window, wrong_windows, wrong_query, told_unless, season_answer, told_number}
use Rattle.model.specs.SeasonText.{ask_line, plans_line, day_text, window_line, season_text, season_numbers, season_told, season_prints}
use Rattle.model.specs.Cycle.{first_multiple, slot_end, last_slot_end, cycle, effect, cycle_answer, change_answer, cycle_in, change_in, tick_line, change_prints}

unfoldable pub computing : Unit {0}
unfolding repeated same_numbers order put put_all front unit units conjunction may_carry runs_next may_run_first may_run active carries slot_ticks slot_among slot_of offset_among offset first_beginning begins beginning sender row_node row_bytes transit span over known message_ready broadcast_ready delivered process_end delay urgencies_from urgencies weights_by weights dispatch_order queue view never comes ready occupies free candidate unit_starts starts waits_to_broadcast waits_to_send pending pack takes passes_over sends step before planned or_else outside wrong_counts wrong_plan wrong_slot wrong_edge wrong_ticks wrong_sizes no_node wrong_nodes no_process wrong_deciders wrong_ends twin_edges undecided wrong_when too_long plan_refusal bits_met bits_within column_met entry_of key one_of_two plans made_entries row_entries frame_of frame_key wider frames passed_by passing_slots pass_over_count result answered room_refusal plan_answer table_after frames_after counts_after ill_formed met_entries met_log due miscounted not_once column_unknown uses_unknown missing placed_early too_early off_beginning off_slot apart run_together overlap past_end lie_together share_byte greatest_delay in_some table_refusal check before_row run_of_row row_length row_start row_part fits find unless lookup digits decimal field pick_text waits_text when_text slot_line process_line condition_line edge_line plan_line print short when_numbers numbers after_refusal unless_refused fitting write_plan bytes_after bit value_text column_text place_text entry_line frame_line refused_line passed_line passed_lines listing words_listing printed program_prints plan_listing listing_refusal list_plan list_reading listable rows_in_order listing_numbers listed_words listed_frames listed_counts other_frames other_counts stated_refusal listed_refusal before_empty after_empty plan_part listing_part check_prints found_number found_in calls told_when_ready told sent_when_ready counting hears given tick_log run_before starts_of delivers days_in no_day in_year has_day has_minute window_applies plan_for wrong_window wrong_windows wrong_query told_unless season_answer told_number ask_line plans_line day_text window_line season_text season_numbers season_told season_prints first_multiple slot_end last_slot_end cycle effect cycle_answer change_answer cycle_in change_in tick_line change_prints
computing = tt

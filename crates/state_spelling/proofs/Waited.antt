-- What a command waits for is spelled in one way.
use Rattle.std.proofs.Common.{◌≡◌, ℕ, Bool, List, [], ◌∷◌, Option, Some, None, refl, sym, ap}
use Rattle.std.specs.Prelude.{ℤ}
use Rattle.std.specs.Int.{w32}
use Rattle.eu_base.specs.declared.stop.Stop.{Stop}
use Rattle.eu_base.specs.declared.stop.Stop.TheVariants as stops
use Rattle.eu_base.specs.declared.request.Request.{Request}
use Rattle.eu_base.specs.declared.request.Request.TheVariants as requests
use Rattle.eu_base.specs.declared.request.Reply.{Reply}
use Rattle.eu_base.specs.declared.request.Reply.TheVariants as replies
use Rattle.code_form.specs.declared.waits.Waits.{Waits}
use Rattle.code_form.specs.declared.waits.Waits.TheVariants as waiting
use Rattle.byte_spelling.specs.Spelling.{number, nothing, both, truth, signed, bytes, option_of}
use Rattle.byte_spelling.proofs.Laws.{IsOne, some_is, one_w32, nothing_one, both_one, truth_one, signed_one, bytes_one, option_one, spelled_as_one, one_of_one, are_cases}
use Rattle.state_spelling.specs.Waiting.{Two, stop_number, stop_overflow_in, stop_division_in, stop_index_in, stop_textlong_in, stop_textroom_in, stop_cellroom_in, stop_operandroom_in, stop_nospace_in, stop_wrongshape_in, stop_manyspaces_in, stop_spacenumbers_in, stop_badname_in, stop_noname_in, stop_namethere_in, stop_taskthere_in, stop_manytasks_in, stop_tasknumbers_in, stop_notinserted_in, stop_badcode_in, stop_own_in, stop_halted_in, stop_onlysession_in, stop_linemarks_in, stop_manypackets_in, stop_noright_in, stop_cases, stop, request_number, request_out_in, request_input_in, request_begin_in, request_end_in, request_myself_in, request_father_in, request_son_in, request_brother_in, request_named_in, request_name_in, request_exists_in, request_break_in, request_send_in, request_wait_in, request_call_in, request_answer_in, request_cases, request, reply_number, reply_done_in, reply_text_in, reply_task_in, reply_truth_in, reply_taken_in, reply_receipt_in, reply_message_in, reply_stopped_in, reply_cases, reply, waits_number, waits_nothing_in, waits_asked_in, waits_given_in, waits_refused_in, waits_cases, waits}

stop_overflow_same : (b : Stop) (a : Unit {0}) → stop_overflow_in b ≡ Some a → (λ (u : Unit {0}). stops.Overflow) a ≡ b
stop_overflow_same stops.Overflow a e = ap (λ (u : Unit {0}). stops.Overflow) (sym (some_is {A = Unit {0}} tt a e))
stop_overflow_same _ a e = absurd cc

stop_division_same : (b : Stop) (a : Unit {0}) → stop_division_in b ≡ Some a → (λ (u : Unit {0}). stops.Division) a ≡ b
stop_division_same stops.Division a e = ap (λ (u : Unit {0}). stops.Division) (sym (some_is {A = Unit {0}} tt a e))
stop_division_same _ a e = absurd cc

stop_index_same : (b : Stop) (a : Unit {0}) → stop_index_in b ≡ Some a → (λ (u : Unit {0}). stops.Index) a ≡ b
stop_index_same stops.Index a e = ap (λ (u : Unit {0}). stops.Index) (sym (some_is {A = Unit {0}} tt a e))
stop_index_same _ a e = absurd cc

stop_textlong_same : (b : Stop) (a : Unit {0}) → stop_textlong_in b ≡ Some a → (λ (u : Unit {0}). stops.TextLong) a ≡ b
stop_textlong_same stops.TextLong a e = ap (λ (u : Unit {0}). stops.TextLong) (sym (some_is {A = Unit {0}} tt a e))
stop_textlong_same _ a e = absurd cc

stop_textroom_same : (b : Stop) (a : Unit {0}) → stop_textroom_in b ≡ Some a → (λ (u : Unit {0}). stops.TextRoom) a ≡ b
stop_textroom_same stops.TextRoom a e = ap (λ (u : Unit {0}). stops.TextRoom) (sym (some_is {A = Unit {0}} tt a e))
stop_textroom_same _ a e = absurd cc

stop_cellroom_same : (b : Stop) (a : Unit {0}) → stop_cellroom_in b ≡ Some a → (λ (u : Unit {0}). stops.CellRoom) a ≡ b
stop_cellroom_same stops.CellRoom a e = ap (λ (u : Unit {0}). stops.CellRoom) (sym (some_is {A = Unit {0}} tt a e))
stop_cellroom_same _ a e = absurd cc

stop_operandroom_same : (b : Stop) (a : Unit {0}) → stop_operandroom_in b ≡ Some a → (λ (u : Unit {0}). stops.OperandRoom) a ≡ b
stop_operandroom_same stops.OperandRoom a e = ap (λ (u : Unit {0}). stops.OperandRoom) (sym (some_is {A = Unit {0}} tt a e))
stop_operandroom_same _ a e = absurd cc

stop_nospace_same : (b : Stop) (a : Unit {0}) → stop_nospace_in b ≡ Some a → (λ (u : Unit {0}). stops.NoSpace) a ≡ b
stop_nospace_same stops.NoSpace a e = ap (λ (u : Unit {0}). stops.NoSpace) (sym (some_is {A = Unit {0}} tt a e))
stop_nospace_same _ a e = absurd cc

stop_wrongshape_same : (b : Stop) (a : Unit {0}) → stop_wrongshape_in b ≡ Some a → (λ (u : Unit {0}). stops.WrongShape) a ≡ b
stop_wrongshape_same stops.WrongShape a e = ap (λ (u : Unit {0}). stops.WrongShape) (sym (some_is {A = Unit {0}} tt a e))
stop_wrongshape_same _ a e = absurd cc

stop_manyspaces_same : (b : Stop) (a : Unit {0}) → stop_manyspaces_in b ≡ Some a → (λ (u : Unit {0}). stops.ManySpaces) a ≡ b
stop_manyspaces_same stops.ManySpaces a e = ap (λ (u : Unit {0}). stops.ManySpaces) (sym (some_is {A = Unit {0}} tt a e))
stop_manyspaces_same _ a e = absurd cc

stop_spacenumbers_same : (b : Stop) (a : Unit {0}) → stop_spacenumbers_in b ≡ Some a → (λ (u : Unit {0}). stops.SpaceNumbers) a ≡ b
stop_spacenumbers_same stops.SpaceNumbers a e = ap (λ (u : Unit {0}). stops.SpaceNumbers) (sym (some_is {A = Unit {0}} tt a e))
stop_spacenumbers_same _ a e = absurd cc

stop_badname_same : (b : Stop) (a : Unit {0}) → stop_badname_in b ≡ Some a → (λ (u : Unit {0}). stops.BadName) a ≡ b
stop_badname_same stops.BadName a e = ap (λ (u : Unit {0}). stops.BadName) (sym (some_is {A = Unit {0}} tt a e))
stop_badname_same _ a e = absurd cc

stop_noname_same : (b : Stop) (a : Unit {0}) → stop_noname_in b ≡ Some a → (λ (u : Unit {0}). stops.NoName) a ≡ b
stop_noname_same stops.NoName a e = ap (λ (u : Unit {0}). stops.NoName) (sym (some_is {A = Unit {0}} tt a e))
stop_noname_same _ a e = absurd cc

stop_namethere_same : (b : Stop) (a : Unit {0}) → stop_namethere_in b ≡ Some a → (λ (u : Unit {0}). stops.NameThere) a ≡ b
stop_namethere_same stops.NameThere a e = ap (λ (u : Unit {0}). stops.NameThere) (sym (some_is {A = Unit {0}} tt a e))
stop_namethere_same _ a e = absurd cc

stop_taskthere_same : (b : Stop) (a : Unit {0}) → stop_taskthere_in b ≡ Some a → (λ (u : Unit {0}). stops.TaskThere) a ≡ b
stop_taskthere_same stops.TaskThere a e = ap (λ (u : Unit {0}). stops.TaskThere) (sym (some_is {A = Unit {0}} tt a e))
stop_taskthere_same _ a e = absurd cc

stop_manytasks_same : (b : Stop) (a : Unit {0}) → stop_manytasks_in b ≡ Some a → (λ (u : Unit {0}). stops.ManyTasks) a ≡ b
stop_manytasks_same stops.ManyTasks a e = ap (λ (u : Unit {0}). stops.ManyTasks) (sym (some_is {A = Unit {0}} tt a e))
stop_manytasks_same _ a e = absurd cc

stop_tasknumbers_same : (b : Stop) (a : Unit {0}) → stop_tasknumbers_in b ≡ Some a → (λ (u : Unit {0}). stops.TaskNumbers) a ≡ b
stop_tasknumbers_same stops.TaskNumbers a e = ap (λ (u : Unit {0}). stops.TaskNumbers) (sym (some_is {A = Unit {0}} tt a e))
stop_tasknumbers_same _ a e = absurd cc

stop_notinserted_same : (b : Stop) (a : Unit {0}) → stop_notinserted_in b ≡ Some a → (λ (u : Unit {0}). stops.NotInserted) a ≡ b
stop_notinserted_same stops.NotInserted a e = ap (λ (u : Unit {0}). stops.NotInserted) (sym (some_is {A = Unit {0}} tt a e))
stop_notinserted_same _ a e = absurd cc

stop_badcode_same : (b : Stop) (a : Unit {0}) → stop_badcode_in b ≡ Some a → (λ (u : Unit {0}). stops.BadCode) a ≡ b
stop_badcode_same stops.BadCode a e = ap (λ (u : Unit {0}). stops.BadCode) (sym (some_is {A = Unit {0}} tt a e))
stop_badcode_same _ a e = absurd cc

stop_own_same : (b : Stop) (a : List ℕ) → stop_own_in b ≡ Some a → stops.Own a ≡ b
stop_own_same (stops.Own x0) a e = ap stops.Own (sym (some_is {A = List ℕ} x0 a e))
stop_own_same _ a e = absurd cc

stop_halted_same : (b : Stop) (a : Unit {0}) → stop_halted_in b ≡ Some a → (λ (u : Unit {0}). stops.Halted) a ≡ b
stop_halted_same stops.Halted a e = ap (λ (u : Unit {0}). stops.Halted) (sym (some_is {A = Unit {0}} tt a e))
stop_halted_same _ a e = absurd cc

stop_onlysession_same : (b : Stop) (a : Unit {0}) → stop_onlysession_in b ≡ Some a → (λ (u : Unit {0}). stops.OnlySession) a ≡ b
stop_onlysession_same stops.OnlySession a e = ap (λ (u : Unit {0}). stops.OnlySession) (sym (some_is {A = Unit {0}} tt a e))
stop_onlysession_same _ a e = absurd cc

stop_linemarks_same : (b : Stop) (a : Unit {0}) → stop_linemarks_in b ≡ Some a → (λ (u : Unit {0}). stops.LineMarks) a ≡ b
stop_linemarks_same stops.LineMarks a e = ap (λ (u : Unit {0}). stops.LineMarks) (sym (some_is {A = Unit {0}} tt a e))
stop_linemarks_same _ a e = absurd cc

stop_manypackets_same : (b : Stop) (a : Unit {0}) → stop_manypackets_in b ≡ Some a → (λ (u : Unit {0}). stops.ManyPackets) a ≡ b
stop_manypackets_same stops.ManyPackets a e = ap (λ (u : Unit {0}). stops.ManyPackets) (sym (some_is {A = Unit {0}} tt a e))
stop_manypackets_same _ a e = absurd cc

stop_noright_same : (b : Stop) (a : Unit {0}) → stop_noright_in b ≡ Some a → (λ (u : Unit {0}). stops.NoRight) a ≡ b
stop_noright_same stops.NoRight a e = ap (λ (u : Unit {0}). stops.NoRight) (sym (some_is {A = Unit {0}} tt a e))
stop_noright_same _ a e = absurd cc

pub stop_one : IsOne stop
stop_one = one_of_one stop_number stop_cases (are_cases stop_number stop_cases (
  spelled_as_one (λ (b : Stop). stop_number b ≡ 0) (λ (u : Unit {0}). stops.Overflow) stop_overflow_in nothing nothing_one (λ a f. refl) (λ a. refl) stop_overflow_same,
  (
    spelled_as_one (λ (b : Stop). stop_number b ≡ 1) (λ (u : Unit {0}). stops.Division) stop_division_in nothing nothing_one (λ a f. refl) (λ a. refl) stop_division_same,
    (
      spelled_as_one (λ (b : Stop). stop_number b ≡ 2) (λ (u : Unit {0}). stops.Index) stop_index_in nothing nothing_one (λ a f. refl) (λ a. refl) stop_index_same,
      (
        spelled_as_one (λ (b : Stop). stop_number b ≡ 3) (λ (u : Unit {0}). stops.TextLong) stop_textlong_in nothing nothing_one (λ a f. refl) (λ a. refl) stop_textlong_same,
        (
          spelled_as_one (λ (b : Stop). stop_number b ≡ 4) (λ (u : Unit {0}). stops.TextRoom) stop_textroom_in nothing nothing_one (λ a f. refl) (λ a. refl) stop_textroom_same,
          (
            spelled_as_one (λ (b : Stop). stop_number b ≡ 5) (λ (u : Unit {0}). stops.CellRoom) stop_cellroom_in nothing nothing_one (λ a f. refl) (λ a. refl) stop_cellroom_same,
            (
              spelled_as_one (λ (b : Stop). stop_number b ≡ 6) (λ (u : Unit {0}). stops.OperandRoom) stop_operandroom_in nothing nothing_one (λ a f. refl) (λ a. refl) stop_operandroom_same,
              (
                spelled_as_one (λ (b : Stop). stop_number b ≡ 7) (λ (u : Unit {0}). stops.NoSpace) stop_nospace_in nothing nothing_one (λ a f. refl) (λ a. refl) stop_nospace_same,
                (
                  spelled_as_one (λ (b : Stop). stop_number b ≡ 8) (λ (u : Unit {0}). stops.WrongShape) stop_wrongshape_in nothing nothing_one (λ a f. refl) (λ a. refl) stop_wrongshape_same,
                  (
                    spelled_as_one (λ (b : Stop). stop_number b ≡ 9) (λ (u : Unit {0}). stops.ManySpaces) stop_manyspaces_in nothing nothing_one (λ a f. refl) (λ a. refl) stop_manyspaces_same,
                    (
                      spelled_as_one (λ (b : Stop). stop_number b ≡ 10) (λ (u : Unit {0}). stops.SpaceNumbers) stop_spacenumbers_in nothing nothing_one (λ a f. refl) (λ a. refl) stop_spacenumbers_same,
                      (
                        spelled_as_one (λ (b : Stop). stop_number b ≡ 11) (λ (u : Unit {0}). stops.BadName) stop_badname_in nothing nothing_one (λ a f. refl) (λ a. refl) stop_badname_same,
                        (
                          spelled_as_one (λ (b : Stop). stop_number b ≡ 12) (λ (u : Unit {0}). stops.NoName) stop_noname_in nothing nothing_one (λ a f. refl) (λ a. refl) stop_noname_same,
                          (
                            spelled_as_one (λ (b : Stop). stop_number b ≡ 13) (λ (u : Unit {0}). stops.NameThere) stop_namethere_in nothing nothing_one (λ a f. refl) (λ a. refl) stop_namethere_same,
                            (
                              spelled_as_one (λ (b : Stop). stop_number b ≡ 14) (λ (u : Unit {0}). stops.TaskThere) stop_taskthere_in nothing nothing_one (λ a f. refl) (λ a. refl) stop_taskthere_same,
                              (
                                spelled_as_one (λ (b : Stop). stop_number b ≡ 15) (λ (u : Unit {0}). stops.ManyTasks) stop_manytasks_in nothing nothing_one (λ a f. refl) (λ a. refl) stop_manytasks_same,
                                (
                                  spelled_as_one (λ (b : Stop). stop_number b ≡ 16) (λ (u : Unit {0}). stops.TaskNumbers) stop_tasknumbers_in nothing nothing_one (λ a f. refl) (λ a. refl) stop_tasknumbers_same,
                                  (
                                    spelled_as_one (λ (b : Stop). stop_number b ≡ 17) (λ (u : Unit {0}). stops.NotInserted) stop_notinserted_in nothing nothing_one (λ a f. refl) (λ a. refl) stop_notinserted_same,
                                    (
                                      spelled_as_one (λ (b : Stop). stop_number b ≡ 18) (λ (u : Unit {0}). stops.BadCode) stop_badcode_in nothing nothing_one (λ a f. refl) (λ a. refl) stop_badcode_same,
                                      (
                                        spelled_as_one (λ (b : Stop). stop_number b ≡ 19) stops.Own stop_own_in bytes bytes_one (λ a f. refl) (λ a. refl) stop_own_same,
                                        (
                                          spelled_as_one (λ (b : Stop). stop_number b ≡ 20) (λ (u : Unit {0}). stops.Halted) stop_halted_in nothing nothing_one (λ a f. refl) (λ a. refl) stop_halted_same,
                                          (
                                            spelled_as_one (λ (b : Stop). stop_number b ≡ 21) (λ (u : Unit {0}). stops.OnlySession) stop_onlysession_in nothing nothing_one (λ a f. refl) (λ a. refl) stop_onlysession_same,
                                            (
                                              spelled_as_one (λ (b : Stop). stop_number b ≡ 22) (λ (u : Unit {0}). stops.LineMarks) stop_linemarks_in nothing nothing_one (λ a f. refl) (λ a. refl) stop_linemarks_same,
                                              (
                                                spelled_as_one (λ (b : Stop). stop_number b ≡ 23) (λ (u : Unit {0}). stops.ManyPackets) stop_manypackets_in nothing nothing_one (λ a f. refl) (λ a. refl) stop_manypackets_same,
                                                (
                                                  spelled_as_one (λ (b : Stop). stop_number b ≡ 24) (λ (u : Unit {0}). stops.NoRight) stop_noright_in nothing nothing_one (λ a f. refl) (λ a. refl) stop_noright_same,
                                                  tt,
                                                ),
                                              ),
                                            ),
                                          ),
                                        ),
                                      ),
                                    ),
                                  ),
                                ),
                              ),
                            ),
                          ),
                        ),
                      ),
                    ),
                  ),
                ),
              ),
            ),
          ),
        ),
      ),
    ),
  ),
))

request_out_same : (b : Request) (a : List ℕ × Bool) → request_out_in b ≡ Some a → (λ (p : List ℕ × Bool). requests.Out p.0 p.1) a ≡ b
request_out_same (requests.Out x0 x1) a e = ap (λ (p : List ℕ × Bool). requests.Out p.0 p.1) (sym (some_is {A = List ℕ × Bool} (x0, x1) a e))
request_out_same _ a e = absurd cc

request_input_same : (b : Request) (a : Unit {0}) → request_input_in b ≡ Some a → (λ (u : Unit {0}). requests.Input) a ≡ b
request_input_same requests.Input a e = ap (λ (u : Unit {0}). requests.Input) (sym (some_is {A = Unit {0}} tt a e))
request_input_same _ a e = absurd cc

request_begin_same : (b : Request) (a : List ℕ × ℕ) → request_begin_in b ≡ Some a → (λ (p : List ℕ × ℕ). requests.Begin p.0 p.1) a ≡ b
request_begin_same (requests.Begin x0 x1) a e = ap (λ (p : List ℕ × ℕ). requests.Begin p.0 p.1) (sym (some_is {A = List ℕ × ℕ} (x0, x1) a e))
request_begin_same _ a e = absurd cc

request_end_same : (b : Request) (a : Option ℕ) → request_end_in b ≡ Some a → requests.End a ≡ b
request_end_same (requests.End x0) a e = ap requests.End (sym (some_is {A = Option ℕ} x0 a e))
request_end_same _ a e = absurd cc

request_myself_same : (b : Request) (a : Unit {0}) → request_myself_in b ≡ Some a → (λ (u : Unit {0}). requests.Myself) a ≡ b
request_myself_same requests.Myself a e = ap (λ (u : Unit {0}). requests.Myself) (sym (some_is {A = Unit {0}} tt a e))
request_myself_same _ a e = absurd cc

request_father_same : (b : Request) (a : Option ℕ) → request_father_in b ≡ Some a → requests.Father a ≡ b
request_father_same (requests.Father x0) a e = ap requests.Father (sym (some_is {A = Option ℕ} x0 a e))
request_father_same _ a e = absurd cc

request_son_same : (b : Request) (a : ℕ) → request_son_in b ≡ Some a → requests.Son a ≡ b
request_son_same (requests.Son x0) a e = ap requests.Son (sym (some_is {A = ℕ} x0 a e))
request_son_same _ a e = absurd cc

request_brother_same : (b : Request) (a : ℕ) → request_brother_in b ≡ Some a → requests.Brother a ≡ b
request_brother_same (requests.Brother x0) a e = ap requests.Brother (sym (some_is {A = ℕ} x0 a e))
request_brother_same _ a e = absurd cc

request_named_same : (b : Request) (a : List ℕ) → request_named_in b ≡ Some a → requests.Named a ≡ b
request_named_same (requests.Named x0) a e = ap requests.Named (sym (some_is {A = List ℕ} x0 a e))
request_named_same _ a e = absurd cc

request_name_same : (b : Request) (a : ℕ) → request_name_in b ≡ Some a → requests.Name a ≡ b
request_name_same (requests.Name x0) a e = ap requests.Name (sym (some_is {A = ℕ} x0 a e))
request_name_same _ a e = absurd cc

request_exists_same : (b : Request) (a : ℕ) → request_exists_in b ≡ Some a → requests.Exists a ≡ b
request_exists_same (requests.Exists x0) a e = ap requests.Exists (sym (some_is {A = ℕ} x0 a e))
request_exists_same _ a e = absurd cc

request_break_same : (b : Request) (a : Unit {0}) → request_break_in b ≡ Some a → (λ (u : Unit {0}). requests.Break) a ≡ b
request_break_same requests.Break a e = ap (λ (u : Unit {0}). requests.Break) (sym (some_is {A = Unit {0}} tt a e))
request_break_same _ a e = absurd cc

request_send_same : (b : Request) (a : ℕ × Two (ℤ) (ℕ)) → request_send_in b ≡ Some a → (λ (p : ℕ × Two (ℤ) (ℕ)). requests.Send p.0 p.1.0 p.1.1) a ≡ b
request_send_same (requests.Send x0 x1 x2) a e = ap (λ (p : ℕ × Two (ℤ) (ℕ)). requests.Send p.0 p.1.0 p.1.1) (sym (some_is {A = ℕ × Two (ℤ) (ℕ)} (x0, (x1, x2)) a e))
request_send_same _ a e = absurd cc

request_wait_same : (b : Request) (a : Unit {0}) → request_wait_in b ≡ Some a → (λ (u : Unit {0}). requests.Wait) a ≡ b
request_wait_same requests.Wait a e = ap (λ (u : Unit {0}). requests.Wait) (sym (some_is {A = Unit {0}} tt a e))
request_wait_same _ a e = absurd cc

request_call_same : (b : Request) (a : ℕ × Two (ℤ) (ℕ)) → request_call_in b ≡ Some a → (λ (p : ℕ × Two (ℤ) (ℕ)). requests.Call p.0 p.1.0 p.1.1) a ≡ b
request_call_same (requests.Call x0 x1 x2) a e = ap (λ (p : ℕ × Two (ℤ) (ℕ)). requests.Call p.0 p.1.0 p.1.1) (sym (some_is {A = ℕ × Two (ℤ) (ℕ)} (x0, (x1, x2)) a e))
request_call_same _ a e = absurd cc

request_answer_same : (b : Request) (a : ℕ) → request_answer_in b ≡ Some a → requests.Answer a ≡ b
request_answer_same (requests.Answer x0) a e = ap requests.Answer (sym (some_is {A = ℕ} x0 a e))
request_answer_same _ a e = absurd cc

pub request_one : IsOne request
request_one = one_of_one request_number request_cases (are_cases request_number request_cases (
  spelled_as_one (λ (b : Request). request_number b ≡ 0) (λ (p : List ℕ × Bool). requests.Out p.0 p.1) request_out_in (both bytes truth) (both_one _ _ bytes_one truth_one) (λ a f. refl) (λ a. refl) request_out_same,
  (
    spelled_as_one (λ (b : Request). request_number b ≡ 1) (λ (u : Unit {0}). requests.Input) request_input_in nothing nothing_one (λ a f. refl) (λ a. refl) request_input_same,
    (
      spelled_as_one (λ (b : Request). request_number b ≡ 2) (λ (p : List ℕ × ℕ). requests.Begin p.0 p.1) request_begin_in (both bytes (number w32)) (both_one _ _ bytes_one one_w32) (λ a f. refl) (λ a. refl) request_begin_same,
      (
        spelled_as_one (λ (b : Request). request_number b ≡ 3) requests.End request_end_in (option_of (number w32)) (option_one (number w32) one_w32) (λ a f. refl) (λ a. refl) request_end_same,
        (
          spelled_as_one (λ (b : Request). request_number b ≡ 4) (λ (u : Unit {0}). requests.Myself) request_myself_in nothing nothing_one (λ a f. refl) (λ a. refl) request_myself_same,
          (
            spelled_as_one (λ (b : Request). request_number b ≡ 5) requests.Father request_father_in (option_of (number w32)) (option_one (number w32) one_w32) (λ a f. refl) (λ a. refl) request_father_same,
            (
              spelled_as_one (λ (b : Request). request_number b ≡ 6) requests.Son request_son_in (number w32) one_w32 (λ a f. refl) (λ a. refl) request_son_same,
              (
                spelled_as_one (λ (b : Request). request_number b ≡ 7) requests.Brother request_brother_in (number w32) one_w32 (λ a f. refl) (λ a. refl) request_brother_same,
                (
                  spelled_as_one (λ (b : Request). request_number b ≡ 8) requests.Named request_named_in bytes bytes_one (λ a f. refl) (λ a. refl) request_named_same,
                  (
                    spelled_as_one (λ (b : Request). request_number b ≡ 9) requests.Name request_name_in (number w32) one_w32 (λ a f. refl) (λ a. refl) request_name_same,
                    (
                      spelled_as_one (λ (b : Request). request_number b ≡ 10) requests.Exists request_exists_in (number w32) one_w32 (λ a f. refl) (λ a. refl) request_exists_same,
                      (
                        spelled_as_one (λ (b : Request). request_number b ≡ 11) (λ (u : Unit {0}). requests.Break) request_break_in nothing nothing_one (λ a f. refl) (λ a. refl) request_break_same,
                        (
                          spelled_as_one (λ (b : Request). request_number b ≡ 12) (λ (p : ℕ × Two (ℤ) (ℕ)). requests.Send p.0 p.1.0 p.1.1) request_send_in (both (number w32) (both signed (number w32))) (both_one _ _ one_w32 (both_one _ _ signed_one one_w32)) (λ a f. refl) (λ a. refl) request_send_same,
                          (
                            spelled_as_one (λ (b : Request). request_number b ≡ 13) (λ (u : Unit {0}). requests.Wait) request_wait_in nothing nothing_one (λ a f. refl) (λ a. refl) request_wait_same,
                            (
                              spelled_as_one (λ (b : Request). request_number b ≡ 14) (λ (p : ℕ × Two (ℤ) (ℕ)). requests.Call p.0 p.1.0 p.1.1) request_call_in (both (number w32) (both signed (number w32))) (both_one _ _ one_w32 (both_one _ _ signed_one one_w32)) (λ a f. refl) (λ a. refl) request_call_same,
                              (
                                spelled_as_one (λ (b : Request). request_number b ≡ 15) requests.Answer request_answer_in (number w32) one_w32 (λ a f. refl) (λ a. refl) request_answer_same,
                                tt,
                              ),
                            ),
                          ),
                        ),
                      ),
                    ),
                  ),
                ),
              ),
            ),
          ),
        ),
      ),
    ),
  ),
))

reply_done_same : (b : Reply) (a : Unit {0}) → reply_done_in b ≡ Some a → (λ (u : Unit {0}). replies.Done) a ≡ b
reply_done_same replies.Done a e = ap (λ (u : Unit {0}). replies.Done) (sym (some_is {A = Unit {0}} tt a e))
reply_done_same _ a e = absurd cc

reply_text_same : (b : Reply) (a : List ℕ) → reply_text_in b ≡ Some a → replies.Text a ≡ b
reply_text_same (replies.Text x0) a e = ap replies.Text (sym (some_is {A = List ℕ} x0 a e))
reply_text_same _ a e = absurd cc

reply_task_same : (b : Reply) (a : ℕ) → reply_task_in b ≡ Some a → replies.Task a ≡ b
reply_task_same (replies.Task x0) a e = ap replies.Task (sym (some_is {A = ℕ} x0 a e))
reply_task_same _ a e = absurd cc

reply_truth_same : (b : Reply) (a : Bool) → reply_truth_in b ≡ Some a → replies.Truth a ≡ b
reply_truth_same (replies.Truth x0) a e = ap replies.Truth (sym (some_is {A = Bool} x0 a e))
reply_truth_same _ a e = absurd cc

reply_taken_same : (b : Reply) (a : Unit {0}) → reply_taken_in b ≡ Some a → (λ (u : Unit {0}). replies.Taken) a ≡ b
reply_taken_same replies.Taken a e = ap (λ (u : Unit {0}). replies.Taken) (sym (some_is {A = Unit {0}} tt a e))
reply_taken_same _ a e = absurd cc

reply_receipt_same : (b : Reply) (a : ℤ) → reply_receipt_in b ≡ Some a → replies.Receipt a ≡ b
reply_receipt_same (replies.Receipt x0) a e = ap replies.Receipt (sym (some_is {A = ℤ} x0 a e))
reply_receipt_same _ a e = absurd cc

reply_message_same : (b : Reply) (a : ℤ × Two (ℕ) (ℕ)) → reply_message_in b ≡ Some a → (λ (p : ℤ × Two (ℕ) (ℕ)). replies.Message p.0 p.1.0 p.1.1) a ≡ b
reply_message_same (replies.Message x0 x1 x2) a e = ap (λ (p : ℤ × Two (ℕ) (ℕ)). replies.Message p.0 p.1.0 p.1.1) (sym (some_is {A = ℤ × Two (ℕ) (ℕ)} (x0, (x1, x2)) a e))
reply_message_same _ a e = absurd cc

reply_stopped_same : (b : Reply) (a : Stop) → reply_stopped_in b ≡ Some a → replies.Stopped a ≡ b
reply_stopped_same (replies.Stopped x0) a e = ap replies.Stopped (sym (some_is {A = Stop} x0 a e))
reply_stopped_same _ a e = absurd cc

pub reply_one : IsOne reply
reply_one = one_of_one reply_number reply_cases (are_cases reply_number reply_cases (
  spelled_as_one (λ (b : Reply). reply_number b ≡ 0) (λ (u : Unit {0}). replies.Done) reply_done_in nothing nothing_one (λ a f. refl) (λ a. refl) reply_done_same,
  (
    spelled_as_one (λ (b : Reply). reply_number b ≡ 1) replies.Text reply_text_in bytes bytes_one (λ a f. refl) (λ a. refl) reply_text_same,
    (
      spelled_as_one (λ (b : Reply). reply_number b ≡ 2) replies.Task reply_task_in (number w32) one_w32 (λ a f. refl) (λ a. refl) reply_task_same,
      (
        spelled_as_one (λ (b : Reply). reply_number b ≡ 3) replies.Truth reply_truth_in truth truth_one (λ a f. refl) (λ a. refl) reply_truth_same,
        (
          spelled_as_one (λ (b : Reply). reply_number b ≡ 4) (λ (u : Unit {0}). replies.Taken) reply_taken_in nothing nothing_one (λ a f. refl) (λ a. refl) reply_taken_same,
          (
            spelled_as_one (λ (b : Reply). reply_number b ≡ 5) replies.Receipt reply_receipt_in signed signed_one (λ a f. refl) (λ a. refl) reply_receipt_same,
            (
              spelled_as_one (λ (b : Reply). reply_number b ≡ 6) (λ (p : ℤ × Two (ℕ) (ℕ)). replies.Message p.0 p.1.0 p.1.1) reply_message_in (both signed (both (number w32) (number w32))) (both_one _ _ signed_one (both_one _ _ one_w32 one_w32)) (λ a f. refl) (λ a. refl) reply_message_same,
              (
                spelled_as_one (λ (b : Reply). reply_number b ≡ 7) replies.Stopped reply_stopped_in stop stop_one (λ a f. refl) (λ a. refl) reply_stopped_same,
                tt,
              ),
            ),
          ),
        ),
      ),
    ),
  ),
))

waits_nothing_same : (b : Waits) (a : Unit {0}) → waits_nothing_in b ≡ Some a → (λ (u : Unit {0}). waiting.Nothing) a ≡ b
waits_nothing_same waiting.Nothing a e = ap (λ (u : Unit {0}). waiting.Nothing) (sym (some_is {A = Unit {0}} tt a e))
waits_nothing_same _ a e = absurd cc

waits_asked_same : (b : Waits) (a : Request) → waits_asked_in b ≡ Some a → waiting.Asked a ≡ b
waits_asked_same (waiting.Asked x0) a e = ap waiting.Asked (sym (some_is {A = Request} x0 a e))
waits_asked_same _ a e = absurd cc

waits_given_same : (b : Waits) (a : Reply) → waits_given_in b ≡ Some a → waiting.Given a ≡ b
waits_given_same (waiting.Given x0) a e = ap waiting.Given (sym (some_is {A = Reply} x0 a e))
waits_given_same _ a e = absurd cc

waits_refused_same : (b : Waits) (a : Stop) → waits_refused_in b ≡ Some a → waiting.Refused a ≡ b
waits_refused_same (waiting.Refused x0) a e = ap waiting.Refused (sym (some_is {A = Stop} x0 a e))
waits_refused_same _ a e = absurd cc

pub waits_one : IsOne waits
waits_one = one_of_one waits_number waits_cases (are_cases waits_number waits_cases (
  spelled_as_one (λ (b : Waits). waits_number b ≡ 0) (λ (u : Unit {0}). waiting.Nothing) waits_nothing_in nothing nothing_one (λ a f. refl) (λ a. refl) waits_nothing_same,
  (
    spelled_as_one (λ (b : Waits). waits_number b ≡ 1) waiting.Asked waits_asked_in request request_one (λ a f. refl) (λ a. refl) waits_asked_same,
    (
      spelled_as_one (λ (b : Waits). waits_number b ≡ 2) waiting.Given waits_given_in reply reply_one (λ a f. refl) (λ a. refl) waits_given_same,
      (
        spelled_as_one (λ (b : Waits). waits_number b ≡ 3) waiting.Refused waits_refused_in stop stop_one (λ a f. refl) (λ a. refl) waits_refused_same,
        tt,
      ),
    ),
  ),
))

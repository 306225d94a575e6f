-- Lines of traces of worked runs.
use Rattle.std.proofs.Common.{◌≡◌, [], ◌∷◌, true, Some, refl, codes}
use Rattle.std.specs.Fmt.{digits}
use Rattle.rv_types.specs.declared.End.TheVariants.{Exit}
use Rattle.line_text.specs.EndLine.{end_line}
use Rattle.window_model.specs.declared.Event.TheVariants.{Fill, Done, Res, Bp, Sq, Ret, St, Call, Alu, Mul, Div, Ld, LdFault, Pf, Ren, Fet}
use Rattle.window_model.specs.declared.Look.TheVariants.{Hit, Miss, Second}
use Rattle.window_model.specs.declared.Way.TheVariants.{Taken, Jump}
use Rattle.window_model.proofs.Worked.{row}
use Rattle.trace_text.specs.TraceText.{event_text, events_text, row_text, rows_text, trace_text}

line_of_a_fill : row_text (row 13 (Fill 0x0001fff0 ∷ Done 0 ∷ Done 3 ∷ Ret 0 ∷ Mul 1 ∷ Alu 4 ∷ []))
    ≡ codes "13 fill:0001fff0 done:0 done:3 ret:0 mul:1 alu:4\n"
unfolding row_text events_text event_text row digits
line_of_a_fill = refl

line_of_a_store : row_text (row 24 (Ret 2 ∷ St 2 0x0001fff0 true ∷ Ret 3 ∷ [])) ≡ codes "24 ret:2 st:2:0001fff0:h ret:3\n"
unfolding row_text events_text event_text row digits
line_of_a_store = refl

line_of_a_call : row_text (row 26 (Ret 5 ∷ Call 5 0 ∷ [])) ≡ codes "26 ret:5 call:5:0\n"
unfolding row_text events_text event_text row digits
line_of_a_call = refl

line_of_a_miss : row_text (row 3 (Ld 0 0x0001fff0 Miss ∷ Ren 2 0x00010008 ∷ [])) ≡ codes "3 ld:0:0001fff0:m ren:2:00010008\n"
unfolding row_text events_text event_text row digits
line_of_a_miss = refl

line_of_a_hit : row_text (row 15 (Done 5 ∷ Ld 6 0x0001fff0 Hit ∷ [])) ≡ codes "15 done:5 ld:6:0001fff0:h\n"
unfolding row_text events_text event_text row digits
line_of_a_hit = refl

line_of_a_prefetch : row_text (row 3 (Ld 0 0x0001ffd0 Second ∷ Pf 0x0001ffe0 Miss ∷ [])) ≡ codes "3 ld:0:0001ffd0:2 pf:0001ffe0:m\n"
unfolding row_text events_text event_text row digits
line_of_a_prefetch = refl

line_of_a_jump : row_text (row 4 (Done 0 ∷ Done 1 ∷ Res 0 Jump ∷ Sq 2 ∷ [])) ≡ codes "4 done:0 done:1 res:0:J sq:2\n"
unfolding row_text events_text event_text row digits
line_of_a_jump = refl

line_of_a_quiet_cycle : row_text (row 3 []) ≡ codes "3\n"
unfolding row_text events_text event_text row digits
line_of_a_quiet_cycle = refl

line_of_a_wrong_path : row_text (row 17 (Done 2 ∷ Res 2 Taken ∷ Bp 2 2 ∷ Sq 7 ∷ Ret 2 ∷ Fet 0x0001001c ∷ Fet 0x00010020 ∷ []))
    ≡ codes "17 done:2 res:2:T bp:2:2 sq:7 ret:2 fet:0001001c fet:00010020\n"
unfolding row_text events_text event_text row digits
line_of_a_wrong_path = refl

line_of_a_division : row_text (row 3 (Div 0 20 ∷ LdFault 1 ∷ [])) ≡ codes "3 div:0:20 ld:1:x\n"
unfolding row_text events_text event_text row digits
line_of_a_division = refl

-- a run that exits at once
whole_trace : trace_text (record { rows = row 1 (Fet 0x00010000 ∷ []) ∷ row 2 [] ∷ []; end = Some (Exit 0); retired = 2; cycles = 2 })
    ≡ codes "1 fet:00010000\n2\nend exit 0 retired 2 cycles 2\n"
unfolding trace_text rows_text row_text events_text event_text row end_line digits
whole_trace = refl

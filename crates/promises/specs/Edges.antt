-- The edges of every number range, and each refusal beside those that could win over it. Assumes nothing.
use Rattle.std.specs.Prelude.{ℕ, cond, List, [], ◌∷◌, ◌++◌, map, eqb, replicate}
use Rattle.lists.specs.Lists.{range}
use Rattle.promises.specs.Cases.{board, grid, submit, clock, withdraw, horizon, openings, busy, slot, Case, case, at, only}

-- a question that is refused: the number, a count of 0, for openings no further one, and a buffer as it was
unfoldable pub refused_list : ℕ → List ℕ → List ℕ
refused_list n buffer = n ∷ 0 ∷ buffer

-- the finish of the task of column c where 64 columns are filled: that of column 5 ends at 3, the others at 9
unfoldable pub end_of : ℕ → ℕ
end_of c = cond (eqb c 5) 3 9

-- CASE 11. 64 tasks, the one of id c in column c and slot c − 1. "64 live: the next gives 9 even where no place exists": with a place (Full, at 3 in
-- column 5), without one, and 8 first; 10,000,000 lax it gives 9, and past it 18: "A task that is both too lax and refused 9 gets the new answer" (02, Q-2).
-- "After one ends its slot is taken": that of slot 4 alone has ended, the next takes just that slot, and those beside it stay; 64 are live again
unfoldable pub filled_up : Case
filled_up =
    case 64 1 (map (λ c. submit 0 c 1 1 (end_of c) 9) (range 1 64)
    ++ (submit 3 65 1 1 1 9 ∷ submit 3 65 1 1 1 3 ∷ submit 3 65 1 1 1 0 ∷ submit 3 65 1 1 1 10000001 ∷ submit 3 65 1 1 1 10000002 ∷ slot 4 ∷ clock 3 ∷ slot 4
    ∷ submit 0 65 1 1 6 9 ∷ slot 3 ∷ slot 4 ∷ slot 5 ∷ submit 3 66 1 1 1 9 ∷ []))
    (map (λ c. at c 0 (end_of c)) (range 1 64)
    ++ (only 9 ∷ only 9 ∷ only 8 ∷ only 9 ∷ only 18 ∷ (5 ∷ 1 ∷ 1 ∷ 3 ∷ 9 ∷ 5 ∷ 0 ∷ 2 ∷ []) ∷ only 0 ∷ replicate 8 0
    ∷ at 5 3 9 ∷ (4 ∷ 1 ∷ 1 ∷ 9 ∷ 9 ∷ 4 ∷ 0 ∷ 2 ∷ [])
    ∷ (65 ∷ 1 ∷ 1 ∷ 6 ∷ 9 ∷ 5 ∷ 3 ∷ 2 ∷ []) ∷ (6 ∷ 1 ∷ 1 ∷ 9 ∷ 9 ∷ 6 ∷ 0 ∷ 2 ∷ []) ∷ only 9 ∷ []))

-- THE EDGES, cases 10 to 12 of document 01 among them
unfoldable pub edge_set : List Case
edge_set =
    -- new board: W 1 to 256, H 1 to 1,024; a refused one leaves the board of zeros, on which every call answers 1
    case 1 1 (board 256 1024 ∷ board 257 1024 ∷ board 0 1 ∷ board 1 0 ∷ board 256 1025 ∷ board 1 1 ∷ [])
    (only 0 ∷ only 2 ∷ only 2 ∷ only 2 ∷ only 2 ∷ only 0 ∷ [])
    ∷ case 0 1 (submit 4 0 0 0 0 0 ∷ clock 0 ∷ clock 2000000001 ∷ withdraw 1 ∷ horizon 1 ∷ openings 0 0 0 0 0 0 3 ∷ busy 0 ∷ board 1 1 ∷ clock 0 ∷ [])
    (only 1 ∷ only 1 ∷ only 1 ∷ only 1 ∷ refused_list 1 (999 ∷ []) ∷ refused_list 1 (0 ∷ 999 ∷ 999 ∷ 999 ∷ []) ∷ refused_list 1 [] ∷ only 0 ∷ only 0 ∷ [])
    -- submission: 3, 4, 5, 6 in this order, each at both ends of its range
    ∷ case 4 2 (submit 4 0 5 1 0 9 ∷ submit 255 1 1 1 1 9 ∷ submit 3 0 5 1 0 9 ∷ submit 0 1 5 1 0 9 ∷ submit 0 1 0 1 1 9 ∷ submit 0 1 1 3 1 9 ∷ submit 0 1 1 0 1 9 ∷ [])
    (only 3 ∷ only 3 ∷ only 4 ∷ only 5 ∷ only 5 ∷ only 5 ∷ only 5 ∷ [])
    ∷ case 4 2 (submit 0 1 1 1 0 9 ∷ submit 0 1 1 1 1000001 1000001 ∷ submit 0 1 1 1 1 2000000001 ∷ clock 1989000000 ∷ submit 0 1 4 2 1000000 2000000000 ∷ [])
    (only 6 ∷ only 6 ∷ only 6 ∷ only 0 ∷ at 1 1989000000 1990000000 ∷ [])
    ∷ case 4 2 (submit 0 4294967295 4 2 1 1 ∷ submit 0 1 1 1 1 0 ∷ clock 1 ∷ submit 0 1 1 1 1 1 ∷ submit 0 1 1 1 1 2 ∷ [])
    (at 1 0 1 ∷ only 8 ∷ only 0 ∷ only 8 ∷ at 1 1 2 ∷ [])
    -- 6 before 7, 7 before 8, 7 over all slots, and the id is free again when its task has ended
    ∷ case 4 1 (submit 0 7 1 1 2 9 ∷ submit 0 7 1 1 0 9 ∷ submit 0 7 1 1 1 0 ∷ submit 0 8 1 1 9 9 ∷ submit 0 8 1 1 1 9 ∷ clock 2 ∷ submit 0 7 1 1 1 9 ∷ [])
    (at 1 0 2 ∷ only 6 ∷ only 7 ∷ at 2 0 9 ∷ only 7 ∷ only 0 ∷ at 1 2 3 ∷ [])
    -- document 02, Q-2: with now 5 and e 4, d 10,000,009 is done and 10,000,010 gives 18; d below now + e gives 8; 7 before 18, and 6 before it where d is over 2,000,000,000
    ∷ case 4 1 (clock 5 ∷ submit 0 1 1 1 4 10000009 ∷ submit 0 2 1 1 4 10000010 ∷ submit 0 2 1 1 4 8 ∷ submit 0 1 1 1 4 10000010
    ∷ submit 0 2 1 1 4 2000000001 ∷ submit 0 2 1 1 4 2000000000 ∷ openings 1 1 4 10000010 0 0 3 ∷ openings 1 1 4 2000000001 0 0 3 ∷ openings 1 1 4 8 0 0 3 ∷ [])
    (only 0 ∷ at 1 5 9 ∷ only 18 ∷ only 8 ∷ only 7 ∷ only 6 ∷ only 18
    ∷ (18 ∷ 0 ∷ 0 ∷ replicate 3 999) ∷ (6 ∷ 0 ∷ 0 ∷ replicate 3 999) ∷ (8 ∷ 0 ∷ 0 ∷ replicate 3 999) ∷ [])
    -- document 02, Q-3: W 10 with g 4, g 0 and g 17 give 2, g 16 is the last; the grid's range before its multiples; a board without a grid is g = 1 again
    ∷ case 1 1 (grid 10 1 4 ∷ grid 8 1 0 ∷ clock 0 ∷ grid 17 1 17 ∷ grid 256 1 16 ∷ grid 257 1 1 ∷ grid 8 1 4 ∷ submit 0 1 2 1 1 9 ∷ board 8 1 ∷ submit 0 1 2 1 1 9 ∷ [])
    (only 2 ∷ only 2 ∷ only 1 ∷ only 2 ∷ only 0 ∷ only 2 ∷ only 0 ∷ only 5 ∷ only 0 ∷ at 1 0 1 ∷ [])
    -- 8 × 1, g 4: w 3 gives 5, in openings too; w 4, e 1, d 3 has six openings, and after (0, 2), off the grid, comes (0, 5); page by page with room for one
    ∷ case 1 1 (grid 8 1 4 ∷ submit 0 1 3 1 1 3 ∷ openings 3 1 1 3 0 0 3 ∷ openings 4 1 1 3 0 0 14
    ∷ openings 4 1 1 3 0 2 4 ∷ openings 4 1 1 3 0 1 2 ∷ openings 4 1 1 3 0 5 2 ∷ openings 4 1 1 3 2 1 5 ∷ [])
    (only 0 ∷ only 5 ∷ (5 ∷ 0 ∷ 0 ∷ replicate 3 999) ∷ (0 ∷ 6 ∷ 0 ∷ 0 ∷ 1 ∷ 0 ∷ 5 ∷ 1 ∷ 1 ∷ 1 ∷ 5 ∷ 2 ∷ 1 ∷ 2 ∷ 5 ∷ replicate 2 999)
    ∷ (0 ∷ 2 ∷ 1 ∷ 0 ∷ 5 ∷ 1 ∷ 1 ∷ []) ∷ (0 ∷ 1 ∷ 1 ∷ 0 ∷ 5 ∷ []) ∷ (0 ∷ 1 ∷ 1 ∷ 1 ∷ 1 ∷ []) ∷ (0 ∷ 1 ∷ 0 ∷ 2 ∷ 5 ∷ replicate 3 999) ∷ [])
    -- the prototype of the source, four columns a step: the planners go from step to step
    ∷ case 1 1 (grid 16 1 4 ∷ submit 0 1 4 1 4 9 ∷ submit 2 2 4 1 2 9 ∷ submit 1 3 8 1 3 9 ∷ submit 3 4 8 1 1 9
    ∷ submit 2 5 8 1 2 5 ∷ submit 0 6 4 1 1 9 ∷ openings 8 1 1 5 0 0 6 ∷ [])
    (only 0 ∷ at 1 0 4 ∷ at 5 0 2 ∷ at 9 0 3 ∷ at 5 3 4 ∷ only 10 ∷ only 10 ∷ (0 ∷ 3 ∷ 0 ∷ 4 ∷ 1 ∷ 4 ∷ 5 ∷ 4 ∷ 9 ∷ []) ∷ [])
    -- rows are rows: a height over W but within H, before and after the clock
    ∷ case 1 2 (submit 0 1 1 2 1 9 ∷ clock 0 ∷ submit 0 2 1 3 1 9 ∷ clock 1 ∷ submit 0 2 1 2 1 9 ∷ []) (at 1 0 1 ∷ only 0 ∷ only 5 ∷ only 0 ∷ at 1 1 2 ∷ [])
    -- clock: 11 below now, 12 above 2,000,000,000, and the clock can go as far as that
    ∷ case 1 1 (clock 5 ∷ clock 4 ∷ clock 5 ∷ clock 2000000001 ∷ clock 2000000000 ∷ clock 0 ∷ [])
    (only 0 ∷ only 11 ∷ only 0 ∷ only 12 ∷ only 0 ∷ only 11 ∷ [])
    -- withdrawal: 13 where no live task has the id, 14 from the start on; its columns, slot and horizon are free again
    ∷ case 2 1 (submit 1 1 2 1 2 9 ∷ submit 1 2 2 1 3 9 ∷ withdraw 3 ∷ withdraw 0 ∷ withdraw 1 ∷ withdraw 2 ∷ withdraw 2
    ∷ horizon 3 ∷ submit 1 3 2 1 2 4 ∷ clock 2 ∷ withdraw 3 ∷ withdraw 1 ∷ [])
    (at 1 0 2 ∷ at 1 2 5 ∷ only 13 ∷ only 13 ∷ only 14 ∷ only 0 ∷ only 13 ∷ (0 ∷ 1 ∷ 1 ∷ 2 ∷ 2 ∷ []) ∷ at 1 2 4 ∷ only 0 ∷ only 14 ∷ only 13 ∷ [])
    -- openings: 5, 6, 8 in this order; no room, an odd word, a pair behind the last, starts after the last finish
    ∷ case 2 1 (submit 0 1 2 1 2 9 ∷ openings 3 1 0 9 0 0 3 ∷ openings 1 2 1 9 0 0 3 ∷ openings 1 1 0 0 0 0 3 ∷ openings 1 1 1 2000000001 0 0 3 ∷ openings 1 1 1 0 0 0 3 ∷ [])
    (at 1 0 2 ∷ (5 ∷ 0 ∷ 0 ∷ replicate 3 999) ∷ (5 ∷ 0 ∷ 0 ∷ replicate 3 999)
    ∷ (6 ∷ 0 ∷ 0 ∷ replicate 3 999) ∷ (6 ∷ 0 ∷ 0 ∷ replicate 3 999) ∷ (8 ∷ 0 ∷ 0 ∷ replicate 3 999) ∷ [])
    ∷ case 2 1 (submit 0 1 2 1 2 9 ∷ openings 1 1 1 4 0 0 0 ∷ openings 1 1 1 4 0 0 1 ∷ openings 1 1 1 4 0 0 5
    ∷ openings 1 1 1 4 2 2 4 ∷ openings 1 1 1 4 3 2 4 ∷ openings 2 1 1 5 0 0 9 ∷ openings 1 1 2 3 0 0 9 ∷ [])
    (at 1 0 2 ∷ (0 ∷ 0 ∷ 1 ∷ []) ∷ (0 ∷ 0 ∷ 1 ∷ 999 ∷ [])
    ∷ (0 ∷ 2 ∷ 1 ∷ 2 ∷ 1 ∷ 2 ∷ 2 ∷ 999 ∷ []) ∷ (0 ∷ 2 ∷ 0 ∷ 3 ∷ 1 ∷ 3 ∷ 2 ∷ []) ∷ (0 ∷ 0 ∷ 0 ∷ replicate 4 999)
    ∷ (0 ∷ 3 ∷ 0 ∷ 2 ∷ 1 ∷ 3 ∷ 1 ∷ 4 ∷ 1 ∷ replicate 3 999) ∷ (0 ∷ 0 ∷ 0 ∷ replicate 9 999) ∷ [])
    -- horizon list: three words a run or 17; runs of equal release that are not adjacent stay apart
    ∷ case 3 1 (submit 0 1 1 1 4 9 ∷ horizon 5 ∷ horizon 6 ∷ submit 0 2 1 1 2 9 ∷ submit 0 3 1 1 4 9 ∷ horizon 8 ∷ horizon 10 ∷ clock 3 ∷ horizon 9 ∷ [])
    (at 1 0 4 ∷ refused_list 17 (replicate 5 999) ∷ (0 ∷ 2 ∷ 2 ∷ 3 ∷ 0 ∷ 1 ∷ 1 ∷ 4 ∷ []) ∷ at 2 0 2 ∷ at 3 0 4 ∷ refused_list 17 (replicate 8 999)
    ∷ (0 ∷ 3 ∷ 2 ∷ 2 ∷ 2 ∷ 1 ∷ 1 ∷ 4 ∷ 3 ∷ 3 ∷ 4 ∷ 999 ∷ []) ∷ only 0 ∷ (0 ∷ 3 ∷ 2 ∷ 2 ∷ 3 ∷ 1 ∷ 1 ∷ 4 ∷ 3 ∷ 3 ∷ 4 ∷ []) ∷ [])
    -- busy columns: from the start, up to and without the finish; 11 and 12
    ∷ case 4 1 (submit 0 1 2 1 2 9 ∷ submit 1 2 3 1 4 9 ∷ busy 0 ∷ busy 1 ∷ busy 2 ∷ busy 5 ∷ busy 6 ∷ clock 1 ∷ busy 0 ∷ busy 2000000000 ∷ busy 2000000001 ∷ [])
    (at 1 0 2 ∷ at 1 2 6 ∷ (0 ∷ 2 ∷ []) ∷ (0 ∷ 2 ∷ []) ∷ (0 ∷ 3 ∷ []) ∷ (0 ∷ 3 ∷ []) ∷ (0 ∷ 0 ∷ [])
    ∷ only 0 ∷ (11 ∷ 0 ∷ []) ∷ (0 ∷ 0 ∷ []) ∷ (12 ∷ 0 ∷ []) ∷ [])
    ∷ filled_up
    ∷ []

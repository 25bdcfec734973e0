-- The numbers of document 01, "Numbers", and the grid of document 02, Q-3: each limit once. Assumes nothing.
use Rattle.std.specs.Prelude.{ℕ, ◌-◌, ◌%◌, Bool, ◌&&◌, leb, eqb}
use Rattle.tasks.specs.declared.Device.{Device}

-- "W 1 to 256"
abbrev pub most_columns : ℕ
most_columns = 256

-- "H 1 to 1,024"
abbrev pub most_rows : ℕ
most_rows = 1024

-- document 02, Q-3: "A board gets a grid g from 1 to 16"
abbrev pub most_grid : ℕ
most_grid = 16

-- "live tasks 0 to 64"
abbrev pub most_tasks : ℕ
most_tasks = 64

-- "execution e 1 to 1,000,000"
abbrev pub longest : ℕ
longest = 1000000

-- "deadline d and now 0 to 2,000,000,000"
abbrev pub last_instant : ℕ
last_instant = 2000000000

-- "id 1 to 4,294,967,295"
abbrev pub largest_id : ℕ
largest_id = 4294967295

-- planners: "0 Reference", "1 Horizon", "2 Stuffing", "3 Full"
abbrev pub last_planner : ℕ
last_planner = 3

-- n is from lo to hi
abbrev pub within : ℕ → ℕ → ℕ → Bool
within lo hi n = leb lo n && leb n hi

-- n is a multiple of g
unfoldable pub multiple : ℕ → ℕ → Bool
multiple g n = eqb (n % g) 0

-- WHERE A TASK MAY BEGIN (document 02, Q-3): "only where c − 1 is a multiple of g"
unfoldable pub may_begin : ℕ → ℕ → Bool
may_begin g c = multiple g (c - 1)

-- a device of W columns and H rows on a grid g
abbrev pub device : ℕ → ℕ → ℕ → Device
device W H g = record { columns = W; rows = H; grid = g }

-- "W 1 to 256; H 1 to 1,024"; document 02, Q-3: "a grid g from 1 to 16; W .. must be [a multiple] of g"
abbrev pub device_fits : Device → Bool
device_fits D =
    within 1 most_columns D.columns && within 1 most_rows D.rows && within 1 most_grid D.grid
    && multiple D.grid D.columns

-- "Width 1 to W; height 1 to H"; document 02, Q-3: "every width must be [a multiple] of g"
abbrev pub size_fits : Device → ℕ → ℕ → Bool
size_fits D w h = within 1 D.columns w && within 1 D.rows h && multiple D.grid w

-- "execution e 1 to 1,000,000; deadline d .. 0 to 2,000,000,000"
abbrev pub time_fits : ℕ → ℕ → Bool
time_fits e d = within 1 longest e && leb d last_instant

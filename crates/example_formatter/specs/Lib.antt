pub mod HourCycles

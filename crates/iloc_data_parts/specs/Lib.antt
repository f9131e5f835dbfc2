pub mod PartsReading
